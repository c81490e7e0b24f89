-- A read of the file at a path is one read.
use Rattle.std.proofs.Common.{◌≡◌, ℕ, List, Option, None, Some, sym, subst}
use Rattle.std.specs.Prelude.{MatchOption, option_and_then}
use Rattle.epx_devices.specs.DeviceStates.{path_source}
use Rattle.epx_devices.specs.Models.{OpenerModel, SourceModel}
use Rattle.epx_devices.specs.Reads.{AreOneReads, IsOneRead}

-- a read of the file that is open, or of one that is opened for it, is one read
file_is_one_read : {F : Type 0} (D : SourceModel F) (law : AreOneReads D) (opened : F → Type 0)
    (old : Option F) (room : ℕ) (bytes : List ℕ) (before after : F)
    → MatchOption old (opened before) (λ first. first ≡ before) → D.reads before room bytes after
    → IsOneRead (option_and_then D.remaining old) (D.remaining after) room bytes
file_is_one_read D law opened None room bytes before after is read =
    let one = law before room bytes after read in
    (one.0, tt, one.2)
file_is_one_read D law opened (Some first) room bytes before after is read =
    subst (λ f. IsOneRead (D.remaining f) (D.remaining after) room bytes) (sym is)
    (law before room bytes after read)

-- if each read of a file is one read, so is each read of a source over the file at a path
pub path_is_one_read : {O F : Type 0} (opening : OpenerModel O F) (D : SourceModel F)
    → AreOneReads D → AreOneReads (path_source opening D)
path_is_one_read opening D law s room bytes t h =
    subst (λ file. IsOneRead (option_and_then D.remaining s.file) (option_and_then D.remaining file)
    room bytes) (sym h.1.3)
    (file_is_one_read D law (opening.opens s.opener s.path) s.file room bytes h.1.0 h.1.1 h.1.2
    h.1.4)

-- What one read of a source may return.
use Rattle.std.specs.Prelude.{◌≡◌, ◌≤◌, ◌<◌, ℕ, List, [], length, Option}
use Rattle.std.specs.Io.KnownBytes.{Consumes, IsAtEnd}
use Rattle.epx_devices.specs.Models.{SourceModel}

-- what one read may return: at most `room` bytes, and none, where it had room, only at the end. If
-- the bytes of the source were known to be `old`, they begin with these, and `new` is what follows
abbrev pub IsOneRead : Option (List ℕ) → Option (List ℕ) → ℕ → List ℕ → Type 0
IsOneRead old new room bytes = (length bytes ≤ room) × Consumes old new bytes
    × (bytes ≡ [] → 0 < room → IsAtEnd new)

-- each read that the model of the source allows is one that `IsOneRead` allows
abbrev pub AreOneReads : {S : Type 0} → SourceModel S → Type 0
AreOneReads {S} D = (s : S) (room : ℕ) (bytes : List ℕ) (t : S) → D.reads s room bytes t
    → IsOneRead (D.remaining s) (D.remaining t) room bytes

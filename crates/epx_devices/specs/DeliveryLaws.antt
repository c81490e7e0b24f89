-- Laws of what the reads of a source deliver.
use Rattle.std.specs.Prelude.{◌≡◌, ℕ, List, ◌++◌, Option, None, Some, IfSome}
use Rattle.epx_devices.specs.Deliveries.{DeliversAll}
use Rattle.epx_devices.specs.DeviceStates.{PathState, ReaderState, path_source}
use Rattle.epx_devices.specs.Models.{OpenerModel, SourceModel}

-- where the remaining bytes of a source are known, reads up to its end return exactly these
abbrev pub AllAreTheKnown : {S : Type 0} → SourceModel S → Type 0
AllAreTheKnown {S} D = (first now : S) (bytes : List ℕ)
    → DeliversAll D first now bytes → IfSome (D.remaining first) (λ all. bytes ≡ all)

-- some file was opened at the path, `bytes` are all its bytes from its opening on, and `now` is
-- this file after them
pub record DeliversOpened {O F : Type 0} (opening : OpenerModel O F) (D : SourceModel F)
    (opener : O) (path : List ℕ) (now : Option F) (bytes : List ℕ) : Type 0 where
  pub opened : F
  pub at_path : opening.opens opener path opened
  pub last : F
  pub is_last : now ≡ Some last
  pub all : DeliversAll D opened last bytes

-- if no file was open, what reads of a source at a path return up to the end is all bytes of one
-- file that was opened at this path
abbrev pub PathDeliversOpened : {O F : Type 0} → OpenerModel O F → SourceModel F → Type 0
PathDeliversOpened {O} {F} opening D = (first now : PathState O F) (bytes : List ℕ)
    → first.file ≡ None → DeliversAll (path_source opening D) first now bytes
    → DeliversOpened opening D first.opener first.path now.file bytes

-- after reads up to its end, a reader has returned what it had returned before, followed by the
-- bytes of these reads
abbrev pub AllAreReturned : {R : Type 0} → SourceModel (ReaderState R) → Type 0
AllAreReturned {R} D = (first now : ReaderState R) (bytes : List ℕ)
    → DeliversAll D first now bytes → now.returned ≡ first.returned ++ bytes

-- if no file was open, then after reads of a source at a path up to the end a file is open, and all
-- that it has returned is the bytes of these reads
abbrev pub FileReturnsAll : {O F : Type 0} → SourceModel (PathState O (ReaderState F)) → Type 0
FileReturnsAll {O} {F} D = (first now : PathState O (ReaderState F)) (bytes : List ℕ)
    → first.file ≡ None → DeliversAll D first now bytes
    → (file : ReaderState F) × (now.file ≡ Some file) × (file.returned ≡ bytes)

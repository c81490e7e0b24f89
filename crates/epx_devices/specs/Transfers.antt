-- The results of reading a whole log and of writing a whole text.
use Rattle.std.specs.Prelude.{◌≡◌, ℕ, ◌≤◌, List, length, take, Option}
use Rattle.std.specs.Io.KnownBytes.{Appends, Consumes}
use Rattle.epx_types.specs.declared.fault.Fault.{Fault}
use Rattle.epx_types.specs.declared.fault.Fault.TheVariants.{Memory, LogTooLong, Read}

-- the fault is `Memory`, or it is `LogTooLong` or `Read` with the number of this log
abbrev pub IsReadLogFault : ℕ → Fault → Type 0
IsReadLogFault log Memory = Unit {0}
IsReadLogFault log (LogTooLong other) = other ≡ log
IsReadLogFault log (Read other) = other ≡ log
IsReadLogFault log _ = ⊥

-- if the bytes are known, at most n of them are removed from the front
abbrev pub ConsumesUpTo : Option (List ℕ) → Option (List ℕ) → ℕ → Type 0
ConsumesUpTo old new n = (bytes : List ℕ) × Consumes old new bytes × (length bytes ≤ n)

-- if the bytes are known, exactly the first n are removed
abbrev pub ConsumesExactly : Option (List ℕ) → Option (List ℕ) → ℕ → Type 0
ConsumesExactly old new n = (bytes : List ℕ) × Consumes old new bytes × (length bytes ≡ n)

-- if the bytes are known, a prefix of the text is appended
abbrev pub AppendsPrefix : Option (List ℕ) → Option (List ℕ) → List ℕ → Type 0
AppendsPrefix old new text = (n : ℕ) × (n ≤ length text) × Appends old new (take n text)

-- The bytes that the reads of a source returned, whether or not they were known before.
use Rattle.std.specs.Prelude.{◌≡◌, ℕ, ◌+◌, ◌<◌, List, [], ◌∷◌, length, flat_map}
use Rattle.epx_types.specs.declared.fault.Fault.{Fault}
use Rattle.epx_types.specs.declared.fault.Fault.TheVariants.{Memory, LogTooLong, Read}
use Rattle.epx_types.specs.Limits.{max_log_bytes}
use Rattle.epx_devices.specs.Models.{SourceModel}

-- one read: how many bytes it had room for, the bytes that it returned, and the source after it
pub record ReadStep (S : Type 0) : Type 0 where
  pub room : ℕ
  pub bytes : List ℕ
  pub next : S

-- the reads follow one another: the first from the state `first`, each other from the state in
-- which the previous one left the source; the last leaves it in the state `now`
abbrev pub AreReads : {S : Type 0} → SourceModel S → S → List (ReadStep S) → S → Type 0
AreReads D first [] now = first ≡ now
AreReads D first (r ∷ rest) now =
    D.reads first r.room r.bytes r.next × AreReads D r.next rest now

-- reads, one after another from the state `first` to `now`, returned together exactly these bytes
pub record Delivers {S : Type 0} (D : SourceModel S)
    (first now : S) (bytes : List ℕ) : Type 0 where
  pub steps : List (ReadStep S)
  pub in_turn : AreReads D first steps now
  pub returned : bytes ≡ flat_map (λ r. r.bytes) steps

-- these are all bytes of the source from the state `first` on: reads returned them, and one more
-- read, which had room, returned none and left the state `now`
pub record DeliversAll {S : Type 0} (D : SourceModel S)
    (first now : S) (bytes : List ℕ) : Type 0 where
  pub last : S
  pub before : Delivers D first last bytes
  pub room : ℕ
  pub has_room : 0 < room
  pub ended : D.reads last room [] now

-- reads of the source returned exactly n bytes
abbrev pub DeliversExactly : {S : Type 0} → SourceModel S → S → S → ℕ → Type 0
DeliversExactly D first now n =
    (bytes : List ℕ) × Delivers D first now bytes × (length bytes ≡ n)

-- reads of the source returned zero or more bytes, and the next read failed
pub record DeliversThenFails {S : Type 0} (D : SourceModel S) (first now : S) : Type 0 where
  pub last : S
  pub bytes : List ℕ
  pub before : Delivers D first last bytes
  pub failed : D.fails last now

-- reading the log of this number may stop with this fault: `LogTooLong` after reads of
-- `max_log_bytes` + 1 bytes, `Read` after a failed read, both with this number, or `Memory` at any
-- time; no other fault
abbrev pub IsLogStop : {S : Type 0} → SourceModel S → ℕ → S → S → Fault → Type 0
IsLogStop D log first now Memory = Unit {0}
IsLogStop D log first now (LogTooLong k) =
    (k ≡ log) × DeliversExactly D first now (max_log_bytes + 1)
IsLogStop D log first now (Read k) = (k ≡ log) × DeliversThenFails D first now
IsLogStop D log first now _ = ⊥

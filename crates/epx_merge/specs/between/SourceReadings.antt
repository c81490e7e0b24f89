-- Reading sources one after another: how far it is, and how it ends.
use Rattle.std.specs.Prelude.{◌≡◌, ◌≤◌, ◌<◌, ◌+◌, ◌⊎◌, ℕ, Bool, false, List, length, take, drop}
use Rattle.std.specs.Prelude.{All, Result, Ok, Err, IfOk, IfErr, IsErrOf, MatchResult}
use Rattle.std.specs.Io.KnownBytes.{IsAtEnd}
use Rattle.epx_types.specs.declared.fault.Fault.{Fault}
use Rattle.epx_types.specs.declared.fault.Fault.TheVariants.{Write}
use Rattle.epx_types.specs.Instances.{Instance}
use Rattle.epx_devices.specs.Models.{SourceModel}
use Rattle.epx_merge.specs.Acceptance.{IsAccepted}
use Rattle.epx_types.specs.Limits.{max_log_bytes}
use Rattle.epx_merge.specs.LogLines.{meanings_of}
use Rattle.epx_merge.specs.between.LogReaders.{IsNoting, NoteRelation}
use Rattle.epx_merge.specs.Refusals.{FitLimits, IsRefusal}
use Rattle.epx_merge.specs.DeliveredLogs.{EachDelivers, FirstDeliver, StopsReading}
use Rattle.epx_merge.specs.ReadingRefusals.{AreBytesOf, IsReadingRefusal}
use Rattle.epx_merge.specs.SourceEndings.{EachConsumesUpTo, LeavesSources, StopsAt}

-- The first n sources have no known bytes left, the others are unchanged, and none has failed.
-- `read` has n logs, none too long, which are those of the first n sources where the bytes of all
-- sources are known
pub record FirstAreRead {S : Type 0} (D : SourceModel S) (first now : List S) (n : ℕ)
    (read : List (List ℕ)) : Type 0 where
  pub as_many : length now ≡ length first
  pub within : n ≤ length first
  pub rest : drop n now ≡ drop n first
  pub whole : All (λ s. D.has_failed s ≡ false) now
  pub known : (logs : List (List ℕ)) → AreBytesOf D first logs → read ≡ take n logs
  pub short : All (λ bytes. length bytes ≤ max_log_bytes) read
  pub count : length read ≡ n
  pub taken : EachConsumesUpTo D first now (max_log_bytes + 1)
  pub ended : All (λ s. IsAtEnd (D.remaining s)) (take n now)

-- the first n sources are read, and delivered these logs
pub record AreDeliveredUpTo {S : Type 0} (D : SourceModel S) (first now : List S) (n : ℕ)
    (logs : List (List ℕ)) : Type 0 where
  pub read : FirstAreRead D first now n logs
  pub delivered : FirstDeliver D first now logs

-- the result of reading all sources: the whole log of each, within limits, or the fault that
-- stopped reading; both fit the bytes of the sources where these are known. The sources are left as
-- `LeavesSources` says
pub record EndsReading {S : Type 0} (D : SourceModel S) (old new : List S)
    (result : Result (List (List ℕ)) Fault) : Type 0 where
  pub bytes : IfOk result (λ logs. (given : List (List ℕ)) → AreBytesOf D old given
      → logs ≡ given)
  pub delivered : IfOk result (EachDelivers D old new)
  pub fit : IfOk result FitLimits
  pub refusal : IfErr result (λ fault. (logs : List (List ℕ)) → AreBytesOf D old logs
      → IsReadingRefusal logs fault)
  pub stopped : IfErr result (StopsReading D old new)
  pub nothing_written : ¬ IsErrOf result Write
  pub place : (log : ℕ) → StopsAt result log → log < length old
  pub sources : LeavesSources D old new result

-- a fault of reading all sources, or the sources are read and `Made` relates their logs to the
-- result
abbrev pub EndsMaking : {S T : Type 0} → SourceModel S
    → (List (List ℕ) → Result T Fault → Type 0) → List S → List S → Result T Fault → Type 0
EndsMaking D Made old new (Ok made) =
    (logs : List (List ℕ)) × EndsReading D old new (Ok logs) × Made logs (Ok made)
EndsMaking D Made old new (Err fault) = EndsReading D old new (Err fault)
    ⊎ ((logs : List (List ℕ)) × EndsReading D old new (Ok logs) × Made logs (Err fault))

-- a fault of reading all sources, or the sources are read and the first part of the value is the
-- result of noting the lines of their logs (`IsNoting`)
abbrev pub EndsNoting : {S N P T : Type 0} → SourceModel S → NoteRelation N P → Bool → List S
    → List S → Result (Result N Fault × T) Fault → Type 0
EndsNoting D has_read refuses old new (Ok noted) = (logs : List (List ℕ))
    × EndsReading D old new (Ok logs) × IsNoting has_read refuses (meanings_of logs) noted.0
EndsNoting D has_read refuses old new (Err fault) = EndsReading D old new (Err fault)

-- the result is the map that the logs commit, if they are accepted, or a refusal of the logs
abbrev pub IsMerging : List (List ℕ) → Result (List Instance) Fault → Type 0
IsMerging logs result = MatchResult result (IsAccepted logs) (IsRefusal logs)

-- the result of reading all sources and merging their logs: the map that the logs commit, or a
-- fault of reading, or a refusal of the logs
abbrev pub EndsMerging : {S : Type 0} → SourceModel S → List S → List S
    → Result (List Instance) Fault → Type 0
EndsMerging D = EndsMaking D IsMerging

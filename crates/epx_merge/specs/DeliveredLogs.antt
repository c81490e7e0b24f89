-- What sources delivered while they were read. Their bytes need not be known before.
use Rattle.std.specs.Prelude.{◌≡◌, ◌⊎◌, ℕ, ◌<◌, List, [], ◌∷◌, length, slice_get, Some}
use Rattle.epx_types.specs.declared.fault.Fault.{Fault}
use Rattle.epx_types.specs.declared.fault.Fault.TheVariants.{Memory, TooManyLogs}
use Rattle.epx_types.specs.Limits.{max_logs}
use Rattle.epx_devices.specs.Deliveries.{DeliversAll, IsLogStop}
use Rattle.epx_devices.specs.Models.{SourceModel}
use Rattle.epx_merge.specs.Refusals.{NoneTooLong}

-- ---- the logs that were delivered

-- the first sources, one for each of these logs, delivered them: each log is all bytes that its
-- source returned from its state in `old` to that in `new`
abbrev pub FirstDeliver : {S : Type 0} → SourceModel S → List S → List S → List (List ℕ) → Type 0
FirstDeliver D old new [] = Unit {0}
FirstDeliver D (s ∷ old) (t ∷ new) (log ∷ logs) =
    DeliversAll D s t log × FirstDeliver D old new logs
FirstDeliver D _ _ (log ∷ logs) = ⊥

-- from the states `old` to the states `new`, the sources delivered these logs, one whole log each
pub record EachDelivers {S : Type 0} (D : SourceModel S) (old new : List S)
    (logs : List (List ℕ)) : Type 0 where
  pub as_many : length logs ≡ length old
  pub whole : FirstDeliver D old new logs

-- ---- why reading stopped

-- there is a source with the number `log`, and each source before it delivered a whole log, none of
-- them too long
pub record DeliveredBefore {S : Type 0} (D : SourceModel S) (old new : List S) (log : ℕ) : Type
    0 where
  pub within : log < length old
  pub logs : List (List ℕ)
  pub as_many : length logs ≡ log
  pub whole : FirstDeliver D old new logs
  pub short : NoneTooLong logs

-- reading stopped at one source, after those before it had delivered a log each, none too long; the
-- fault is that its log is too long, that a read of it failed, or out of memory
pub record StopsAtSource {S : Type 0} (D : SourceModel S) (old new : List S) (fault : Fault) : Type
    0 where
  pub log : ℕ
  pub before : DeliveredBefore D old new log
  pub first : S
  pub last : S
  pub was : slice_get old log ≡ Some first
  pub is : slice_get new log ≡ Some last
  pub stopped : IsLogStop D log first last fault

-- the fault is out of memory, or it is too many logs and `count`, the number of sources, is over
-- `max_logs`
abbrev pub IsOfNoSource : ℕ → Fault → Type 0
IsOfNoSource count Memory = Unit {0}
IsOfNoSource count TooManyLogs = max_logs < count
IsOfNoSource count _ = ⊥

-- the fault says why reading the sources stopped: out of memory, too many sources, or, after
-- sources that delivered a log each, one whose log is too long or of which a read failed
abbrev pub StopsReading : {S : Type 0} → SourceModel S → List S → List S → Fault → Type 0
StopsReading D old new fault = IsOfNoSource (length old) fault ⊎ StopsAtSource D old new fault

-- The refusals of logs, in their order.
use Rattle.std.specs.Prelude.{◌≡◌, ℕ, ◌<◌, ◌≤◌, List, [], ◌∷◌, length, slice_get, Some}
use Rattle.epx_types.specs.declared.place.Place.{Place}
use Rattle.epx_types.specs.declared.fault.Fault.{Fault}
use Rattle.epx_types.specs.declared.fault.Fault.TheVariants.{Memory, TooManyLogs, LogTooLong}
use Rattle.epx_types.specs.declared.fault.Fault.TheVariants.{BadLine, TooManyInstances, Disagree}
use Rattle.epx_types.specs.declared.fault.Fault.TheVariants.{Read, Write, BadBase}
use Rattle.epx_types.specs.declared.fault.Why.{Why}
use Rattle.epx_committed.specs.InstanceCounts.{FewInstances, ManyInstances}
use Rattle.epx_committed.specs.MergedLines.{IsDisagreementAt}
use Rattle.epx_types.specs.Limits.{max_logs, max_log_bytes}
use Rattle.epx_merge.specs.LogLines.{placed_of, BadLineAt, bad_lines_of}

-- ---- the least log that is too long

-- the log with this number is the first that has over `max_log_bytes` bytes
pub record IsFirstTooLong (logs : List (List ℕ)) (log : ℕ) : Type 0 where
  pub long : (bytes : List ℕ) × (slice_get logs log ≡ Some bytes) × (max_log_bytes < length bytes)
  pub first : (k : ℕ) (bytes : List ℕ) → k < log → slice_get logs k ≡ Some bytes
      → length bytes ≤ max_log_bytes

-- each log has at most `max_log_bytes` bytes
abbrev pub NoneTooLong : List (List ℕ) → Type 0
NoneTooLong logs = (k : ℕ) (bytes : List ℕ) → slice_get logs k ≡ Some bytes
    → length bytes ≤ max_log_bytes

-- not too many logs, and none is too long
abbrev pub FitLimits : List (List ℕ) → Type 0
FitLimits logs = (length logs ≤ max_logs) × NoneTooLong logs

-- ---- the least bad line

-- the first of these bad lines is at this place and has this fault
abbrev pub IsFirstBadLine : List BadLineAt → Place → Why → Type 0
IsFirstBadLine lines place why = (rest : List BadLineAt)
    × (lines ≡ record { place = place; why = why } ∷ rest)

-- there are not too many logs, none is too long, and no line is bad
abbrev pub AreWellFormed : List (List ℕ) → Type 0
AreWellFormed logs = FitLimits logs × (bad_lines_of logs ≡ [])

-- ---- all of them

-- The first that applies: too many logs, the first log that is too long, the first bad line, too
-- many instances, the first disagreement. Out of memory is a refusal of all logs; failed reads,
-- failed writes and bad bases are refusals of none
abbrev pub IsRefusal : List (List ℕ) → Fault → Type 0
IsRefusal logs Memory = Unit {0}
IsRefusal logs TooManyLogs = max_logs < length logs
IsRefusal logs (LogTooLong log) = (length logs ≤ max_logs) × IsFirstTooLong logs log
IsRefusal logs (BadLine place why) = FitLimits logs × IsFirstBadLine (bad_lines_of logs) place why
IsRefusal logs TooManyInstances = AreWellFormed logs × ManyInstances (placed_of logs)
IsRefusal logs (Disagree id first second) = AreWellFormed logs × FewInstances (placed_of logs)
    × IsDisagreementAt (placed_of logs) id first second
IsRefusal logs (Read log) = ⊥
IsRefusal logs Write = ⊥
IsRefusal logs (BadBase line) = ⊥

-- The faults of reading logs from sources.
use Rattle.std.specs.Prelude.{◌≡◌, ℕ, ◌<◌, ◌≤◌, List, map, length, slice_get, Some}
use Rattle.epx_types.specs.declared.fault.Fault.{Fault}
use Rattle.epx_types.specs.declared.fault.Fault.TheVariants.{Memory, TooManyLogs, LogTooLong, Read}
use Rattle.epx_types.specs.Limits.{max_logs, max_log_bytes}
use Rattle.epx_devices.specs.Models.{SourceModel}
use Rattle.epx_merge.specs.Refusals.{IsFirstTooLong}

-- the bytes that each source has left to deliver are known, and are the log at its position
abbrev pub AreBytesOf : {S : Type 0} → SourceModel S → List S → List (List ℕ) → Type 0
AreBytesOf D sources logs = map D.remaining sources ≡ map Some logs

-- no log before this one is too long
abbrev pub NoneTooLongBefore : List (List ℕ) → ℕ → Type 0
NoneTooLongBefore logs log = (k : ℕ) (bytes : List ℕ) → k < log → slice_get logs k ≡ Some bytes
    → length bytes ≤ max_log_bytes

-- a fault with which reading these logs may end: out of memory; too many logs; otherwise the first
-- log that is too long, or a failed read of a log before which none is too long
abbrev pub IsReadingRefusal : List (List ℕ) → Fault → Type 0
IsReadingRefusal logs Memory = Unit {0}
IsReadingRefusal logs TooManyLogs = max_logs < length logs
IsReadingRefusal logs (LogTooLong log) = (length logs ≤ max_logs) × IsFirstTooLong logs log
IsReadingRefusal logs (Read log) = (length logs ≤ max_logs) × (log < length logs)
    × NoneTooLongBefore logs log
IsReadingRefusal logs _ = ⊥

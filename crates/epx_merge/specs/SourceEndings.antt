-- How reading leaves the sources of logs.
use Rattle.std.specs.Prelude.{◌≡◌, ◌↔◌, ◌⊎◌, ◌+◌, ◌<◌, ℕ, true, List, length, drop, All}
use Rattle.std.specs.Prelude.{Some, slice_get, Result, OnOk, IsErrOf}
use Rattle.std.specs.List.{AllZip}
use Rattle.std.specs.Io.KnownBytes.{IsAtEnd}
use Rattle.epx_types.specs.declared.fault.Fault.{Fault}
use Rattle.epx_types.specs.declared.fault.Fault.TheVariants.{TooManyLogs, LogTooLong, Read}
use Rattle.epx_devices.specs.Transfers.{ConsumesUpTo}
use Rattle.epx_types.specs.Limits.{max_logs, max_log_bytes}
use Rattle.epx_devices.specs.Models.{SourceModel}

-- of each source whose bytes are known, at most n are taken, from the front
abbrev pub EachConsumesUpTo : {S : Type 0} → SourceModel S → List S → List S → ℕ → Type 0
EachConsumesUpTo D old new n = AllZip
    (λ before after. ConsumesUpTo (D.remaining before) (D.remaining after) n) old new

-- the result is the fault that the log of this number is too long or cannot be read
abbrev pub StopsAt : {T : Type 0} → Result T Fault → ℕ → Type 0
StopsAt result log = IsErrOf result (LogTooLong log) ⊎ IsErrOf result (Read log)

-- A source has failed exactly if the result is its fault `Read`. Too many logs are refused unread,
-- and sources after a log that stops reading are unchanged. From each at most `max_log_bytes` + 1
-- known bytes are taken, and on success all
pub record LeavesSources {S T : Type 0} (D : SourceModel S) (old new : List S)
    (result : Result T Fault) : Type 0 where
  pub read : (log : ℕ) (source : S) → slice_get new log ≡ Some source
      → IsErrOf result (Read log) ↔ (D.has_failed source ≡ true)
  pub taken : EachConsumesUpTo D old new (max_log_bytes + 1)
  pub ended : OnOk result (All (λ s. IsAtEnd (D.remaining s)) new)
  pub no_further : (log : ℕ) → StopsAt result log → drop (log + 1) new ≡ drop (log + 1) old
  pub too_many : IsErrOf result TooManyLogs ↔ (max_logs < length old)
  pub none_read : IsErrOf result TooManyLogs → new ≡ old

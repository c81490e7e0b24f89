-- How a run leaves the source of an extra input.
use Rattle.std.specs.Prelude.{◌≡◌, ◌↔◌, ◌+◌, ◌<◌, ℕ, true, Result, OnOk, IsErrOf}
use Rattle.std.specs.Io.KnownBytes.{IsAtEnd}
use Rattle.epx_types.specs.declared.fault.Fault.{Fault}
use Rattle.epx_types.specs.declared.fault.Fault.TheVariants.{TooManyLogs, Read}
use Rattle.epx_types.specs.Limits.{max_log_bytes}
use Rattle.epx_devices.specs.Models.{SourceModel}
use Rattle.epx_devices.specs.Transfers.{ConsumesUpTo}
use Rattle.epx_merge.specs.SourceEndings.{StopsAt}

-- how a call leaves the source of an extra input, which is read after `count` logs: failed exactly
-- if the fault is `Read count`, with at most `max_log_bytes` + 1 bytes taken, at its end after
-- success, and untouched if reading stopped at a log or there are too many
pub record LeavesInput {I T : Type 0} (E : SourceModel I) (first last : I) (count : ℕ)
    (result : Result T Fault) : Type 0 where
  -- it has failed exactly if the fault is of reading it: its number is that of the logs
  pub read : IsErrOf result (Read count) ↔ (E.has_failed last ≡ true)
  -- at most one byte more than a log may have is read of it
  pub taken : ConsumesUpTo (E.remaining first) (E.remaining last) (max_log_bytes + 1)
  pub ended : OnOk result (IsAtEnd (E.remaining last))
  -- it is not read where reading stops at a log, or where there are too many logs
  pub untouched : (log : ℕ) → StopsAt result log → log < count → last ≡ first
  pub none_read : IsErrOf result TooManyLogs → last ≡ first

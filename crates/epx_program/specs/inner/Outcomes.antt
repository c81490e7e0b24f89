-- What a task comes to, over all sources that it reads.
use Rattle.std.specs.Prelude.{◌≡◌, ◌≢◌, ◌↔◌, ℕ, Bool, true, List, Result, OnOk}
use Rattle.std.specs.Prelude.{IfOk, IfErr, IsErrOf}
use Rattle.std.specs.Io.KnownBytes.{Keeps}
use Rattle.epx_types.specs.declared.fault.Fault.{Fault}
use Rattle.epx_types.specs.declared.fault.Fault.TheVariants.{Read, Write}
use Rattle.epx_names.specs.declared.task.Task.{Task}
use Rattle.epx_devices.specs.Models.{SinkModel, SourceModel}
use Rattle.epx_merge.specs.DeliveredLogs.{EachDelivers}
use Rattle.epx_merge.specs.ReadingRefusals.{AreBytesOf}
use Rattle.epx_program.specs.Endings.{AddsAnswer, AddsPart, IsTaskResult}
use Rattle.epx_program.specs.Inputs.{OneHasFailedRead}

-- The outcome of a task over these sources, which it leaves as `after`. `was` and `now` are the
-- output before and after.
pub record TaskOutcome {S T : Type 0} (D : SourceModel S) (W : SinkModel T) (task : Task)
    (sources after : List S) (done : Result Bool Fault) (was now : T) : Type 0 where
  -- if the bytes of the sources are known, the outcome is that of the task over them
  pub known : (texts : List (List ℕ)) → AreBytesOf D sources texts
      → IsTaskResult task texts done (W.contents was) (W.contents now)
  -- over any sources, success means that the answer to the texts that they delivered is appended
  -- and flushed
  pub answered : IfOk done (λ found. AddsAnswer task found (EachDelivers D sources after)
      (W.contents was) (W.contents now))
  pub flushed : OnOk done (W.is_flushed now ≡ true)
  -- a failed write leaves a prefix of such an answer; any other fault leaves the output unchanged
  pub part : IsErrOf done Write
      → AddsPart task (EachDelivers D sources after) (W.contents was) (W.contents now)
  pub nothing : IfErr done (λ fault. fault ≢ Write → Keeps (W.contents was) (W.contents now))
  -- a fault of a device means that a device failed
  pub unread : (log : ℕ) → IsErrOf done (Read log) → OneHasFailedRead D sources
  pub written : IsErrOf done Write ↔ (W.has_failed now ≡ true)

use Rattle.std.proofs.Common.{[]}
use Rattle.epx_types.proofs.Common.{ranked_ids, IsExecutionOrder-IsLawful}
use Rattle.epx_executor.specs.ExecutorLaws.{new_executor}
use Rattle.epx_executor.specs.HistoryLaws.{executed_ids}
use Rattle.epx_executor.proofs.PrefixLemmas.{IsLawfulPrefix-from_done, HasExecuted-after}
use Rattle.epx_executor.proofs.PrefixLemmas.{HasExecuted-nothing}
use Rattle.epx_executor.proofs.HistoryLemmas.{IsSoundFor-after}
use Rattle.epx_executor.proofs.laws.calls_execute_a_lawful_prefix.Goals as goal

pub returns : goal.returns
returns c = λ m rising calls after are from.
    let stays = c.committing_stays_sound.ensures in
    let new = c.new_executor_is_sound.ensures m rising in
    let whole = c.execution_order_exists.ensures m rising in
    let executed = HasExecuted-after m stays calls new_executor after new are from [] []
    (HasExecuted-nothing m) in (
      IsLawfulPrefix-from_done m after (executed_ids calls) (ranked_ids whole.0)
          (IsSoundFor-after m stays calls new_executor after new are from) executed.lawful
          (IsExecutionOrder-IsLawful m whole.0 whole.1),
      executed.run,
    )

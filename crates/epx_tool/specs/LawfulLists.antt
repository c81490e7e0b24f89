-- A list that is reported as lawful, over logs that are reported as covered.
use Rattle.std.specs.Prelude.{◌≡◌, ℕ, List, slice_get, Some, Ok}
use Rattle.std.specs.FinMap as contents
use Rattle.epx_types.specs.declared.id.Id.{Id}
use Rattle.epx_types.specs.Instances.{Instance}
use Rattle.epx_types.specs.Execution.{execute, Execution}
use Rattle.epx_types.specs.ExecutionOrder.{Ranked, IsExecutionOrder, ranked_ids}
use Rattle.epx_types.specs.CommittedMap.{commands_in}
use Rattle.epx_merge.specs.Acceptance.{IsAccepted}
use Rattle.epx_report.specs.Lists.{IsList}
use Rattle.epx_report.specs.ViewLines.{covered_line, lawful_line}
use Rattle.epx_tool.specs.declared.ask.Ask.TheVariants.{Audit}
use Rattle.epx_tool.specs.CheckAnswers.{Checks}
use Rattle.epx_tool.specs.TaskAnswers.{AnswersView}

-- two runs have the same final contents, and each instance has the same reply in both, at whatever
-- positions the two orders have it
pub record ExecuteAlike (ids other : List Id) (run run' : Execution) : Type 0 where
  pub final : run.final ≡ run'.final
  pub replies : (i j : ℕ) (x : Id) → slice_get ids i ≡ Some x → slice_get other j ≡ Some x
      → slice_get run.replies i ≡ slice_get run'.replies j

-- if the list is reported as lawful and the logs as covered, the list executes like the report of
-- the logs: from the empty store, with the same replies and the same final store
abbrev pub LawfulListExecutesAlike : Type 0
LawfulListExecutesAlike = (list : List ℕ) (logs : List (List ℕ))
    → Checks list logs (Ok lawful_line) → AnswersView Audit logs (Ok covered_line)
    → (ids : List Id) (m : List Instance) → IsList list ids → IsAccepted logs m →
    (order : List Ranked) → IsExecutionOrder m order
    → ExecuteAlike ids (ranked_ids order) (execute (commands_in m ids) contents.empty)
    (execute (commands_in m (ranked_ids order)) contents.empty)

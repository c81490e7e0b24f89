-- The text of a report.
use Rattle.std.specs.Prelude.{◌≡◌, ℕ, List, ◌++◌, length, flat_map, zip}
use Rattle.std.specs.FinMap as contents
use Rattle.epx_types.specs.Instances.{Instance}
use Rattle.epx_types.specs.CommittedMap.{commands_in}
use Rattle.epx_types.specs.Execution.{execute, Execution}
use Rattle.epx_types.specs.ExecutionOrder.{Ranked, IsExecutionOrder, ranked_ids, component_count}
use Rattle.epx_types.specs.WaitingLists.{Waiting, IsWaitingList}
use Rattle.epx_report.specs.ReportLines.{header_line, reply_line, waiting_line, store_line}

-- the text of a report: the header line, the reply lines in execution order, the waiting lines, and
-- the store lines, by the bytes of the keys
abbrev pub report_text : List Ranked → List Waiting → Execution → List ℕ
report_text order waiting run =
    header_line (length order) (length waiting) (component_count order)
    ++ (flat_map reply_line (zip (ranked_ids order) run.replies)
    ++ (flat_map waiting_line waiting
    ++ flat_map store_line (contents.entries run.final)))

-- `text` is the report of m: the header, the replies in execution order, the waiting list and the
-- final store, as one thread that executes the ready commands one by one from the empty store would
-- write it
pub record IsReport (m : List Instance) (text : List ℕ) : Type 0 where
  pub order : List Ranked
  pub waiting : List Waiting
  pub ordered : IsExecutionOrder m order
  pub listed : IsWaitingList m waiting
  pub printed : text ≡ report_text order waiting
      (execute (commands_in m (ranked_ids order)) contents.empty)

-- The text of a resumed report: of a committed map of which some instances are done.
use Rattle.std.specs.Prelude.{◌≡◌, ℕ, List, ◌++◌, length, flat_map, zip}
use Rattle.std.specs.FinMap as contents
use Rattle.epx_types.specs.declared.id.Id.{Id}
use Rattle.epx_types.specs.Contents.{Contents}
use Rattle.epx_types.specs.Instances.{Instance}
use Rattle.epx_types.specs.Done.{remaining}
use Rattle.epx_types.specs.Execution.{execute, Execution}
use Rattle.epx_types.specs.ExecutionOrder.{Ranked, IsExecutionOrder, ranked_ids, component_count}
use Rattle.epx_types.specs.WaitingLists.{Waiting, IsWaitingList}
use Rattle.epx_types.specs.CommittedMap.{commands_in}
use Rattle.epx_report.specs.ReportLines.{header_line, done_line, reply_line, waiting_line}
use Rattle.epx_report.specs.ReportLines.{store_line}

-- the text of a resumed report: the header line, the done lines, the reply lines in execution
-- order, the waiting lines, and the store lines, by the bytes of the keys
abbrev pub resumed_text : List Id → List Ranked → List Waiting → Execution → List ℕ
resumed_text done order waiting run =
    header_line (length order) (length waiting) (component_count order)
    ++ (flat_map done_line done
    ++ (flat_map reply_line (zip (ranked_ids order) run.replies)
    ++ (flat_map waiting_line waiting
    ++ flat_map store_line (contents.entries run.final))))

-- `text` is the report of m after the instances `done`: the header, these instances, and the
-- replies, the waiting list and the store of the remaining map, as one thread that executes its
-- ready commands one by one in execution order from the contents `stored` would write it
pub record IsReportAfter (done : List Id) (stored : Contents) (m : List Instance)
    (text : List ℕ) : Type 0 where
  pub order : List Ranked
  pub waiting : List Waiting
  pub ordered : IsExecutionOrder (remaining done m) order
  pub listed : IsWaitingList (remaining done m) waiting
  pub printed : text
      ≡ resumed_text done order waiting
      (execute (commands_in (remaining done m) (ranked_ids order)) stored)

-- The execution of a report, and the parts that the report is written from.
use Rattle.std.specs.Prelude.{ℕ, List, zip}
use Rattle.std.specs.FinMap as contents
use Rattle.epx_types.specs.declared.id.Id.{Id}
use Rattle.epx_types.specs.Contents.{Contents}
use Rattle.epx_types.specs.Instances.{Instance}
use Rattle.epx_types.specs.Done.{remaining}
use Rattle.epx_types.specs.Execution.{execute, Execution}
use Rattle.epx_types.specs.ExecutionOrder.{Ranked, ranked_ids, component_count}
use Rattle.epx_types.specs.WaitingLists.{Waiting}
use Rattle.epx_types.specs.CommittedMap.{commands_in}
use Rattle.epx_report.specs.ReportReadings.{ReportData}
use Rattle.epx_tool.specs.ResumedReport.{IsReportAfter}

-- the data that a report is written from: the number of components, the done instances, the replies
-- in execution order, the waiting list, and the keys and values of the final store
abbrev pub reported_of : List Id → List Ranked → List Waiting → Execution → ReportData
reported_of done order waiting run = record {
  components = component_count order;
  done = done;
  replies = zip (ranked_ids order) run.replies;
  waiting = waiting;
  stored = contents.entries run.final;
}

-- the execution of a report after `done`: the commands of the remaining map, in the execution order
-- of the report, from the contents `stored`
abbrev pub run_in : (done : List Id) (stored : Contents) (m : List Instance) (text : List ℕ)
    → IsReportAfter done stored m text → Execution
run_in done stored m text p = execute (commands_in (remaining done m) (ranked_ids p.order)) stored

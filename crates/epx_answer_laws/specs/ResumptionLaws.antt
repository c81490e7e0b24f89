-- Laws of resuming from a base.
use Rattle.std.specs.Prelude.{◌⊎◌, ◌↔◌, ℕ, List, [], Contains}
use Rattle.std.specs.FinMap as contents
use Rattle.epx_types.specs.declared.id.Id.{Id}
use Rattle.epx_types.specs.Ids.{IsRising}
use Rattle.epx_types.specs.Contents.{Contents}
use Rattle.epx_types.specs.Instances.{Instance}
use Rattle.epx_types.specs.ExecutionOrder.{ranked_ids}
use Rattle.epx_report.specs.Bases.{IsBase}
use Rattle.epx_report.specs.ReportReadings.{FitsReportData}
use Rattle.epx_tool.specs.Report.{IsReport}
use Rattle.epx_tool.specs.ReportedRuns.{reported_of, run_in}
use Rattle.epx_tool.specs.ResumedReport.{IsReportAfter}

-- a text is the report of a map exactly if it is its resumed report (`IsReportAfter`) with no done
-- instances and the empty store
abbrev pub ReportIsAfterNothing : Type 0
ReportIsAfterNothing = (m : List Instance) (text : List ℕ) → IsReport m text
    ↔ IsReportAfter [] contents.empty m text

-- A resumed report whose numbers and texts are within the limits of a base (`FitsReportData`), and
-- whose done instances rise, is a base. Its done instances are those done before and those executed
-- in it; its store is what the execution leaves
abbrev pub ReportIsBase : Type 0
ReportIsBase = (done : List Id) (stored : Contents) (m : List Instance) (text : List ℕ)
    (p : IsReportAfter done stored m text) → IsRising done →
    FitsReportData (reported_of done p.order p.waiting (run_in done stored m text p)) →
    (now : List Id) → IsRising now
    → ((x : Id) → Contains now x ↔ Contains done x ⊎ Contains (ranked_ids p.order) x)
    → IsBase text now (run_in done stored m text p).final

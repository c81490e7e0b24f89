-- When a report is a base: its lines are in order, and the base has the instances that are done
-- after the report and the report's store.
use Rattle.std.specs.Prelude.{◌≡◌, List}
use Rattle.std.specs.FinMap as contents
use Rattle.epx_types.specs.declared.id.Id.{Id}
use Rattle.epx_types.specs.Ids.{IsRising}
use Rattle.epx_types.specs.Contents.{Contents}
use Rattle.epx_types.specs.WaitingLists.{waiting_ids}
use Rattle.epx_report.specs.Bases.{AreDistinctIds, AreDoneIn, IsBase}
use Rattle.epx_report.specs.ReportReadings.{ReportData, replied_ids, text_of_report, FitsReportData}

-- no two of the done, reply and waiting lines of a report are of one instance, and done lines and
-- waiting lines rise
abbrev pub AreLinesInOrder : ReportData → Type 0
AreLinesInOrder r = AreDistinctIds r.done (replied_ids r.replies) (waiting_ids r.waiting)

-- the instances that were done before or that have a reply, each once, by rising Id
abbrev pub AreDoneAfter : ReportData → List Id → Type 0
AreDoneAfter r done = AreDoneIn r.done (replied_ids r.replies) done

-- where the done lines of a report rise, some list has the instances that are done after it
abbrev pub DoneAfterExists : Type 0
DoneAfterExists = (r : ReportData) → IsRising r.done → (done : List Id) × AreDoneAfter r done

-- a report within limits (`FitsReportData`), whose lines are in order and whose store lines list
-- the contents `stored`, is a base with these contents and the instances that are done after it
abbrev pub ReportIsABase : Type 0
ReportIsABase = (r : ReportData) (done : List Id) (stored : Contents) → FitsReportData r
    → AreLinesInOrder r → AreDoneAfter r done → r.stored ≡ contents.entries stored
    → IsBase (text_of_report r) done stored

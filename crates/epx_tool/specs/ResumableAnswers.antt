-- Each answer is a base. Resumed runs have the same replies and store as one run over everything.
use Rattle.std.specs.Prelude.{◌⊎◌, ◌↔◌, ℕ, List, [], Contains, zip, Ok}
use Rattle.std.specs.FinMap as contents
use Rattle.epx_types.specs.declared.id.Id.{Id}
use Rattle.epx_types.specs.declared.reply.Reply.{Reply}
use Rattle.epx_types.specs.Ids.{IsRising}
use Rattle.epx_types.specs.Contents.{Contents}
use Rattle.epx_types.specs.Instances.{Instance}
use Rattle.epx_types.specs.CommittedMap.{ids_of, commands_in}
use Rattle.epx_types.specs.Conflicts.{IsCovered}
use Rattle.epx_types.specs.Done.{remaining}
use Rattle.epx_types.specs.Execution.{execute}
use Rattle.epx_types.specs.ExecutionOrder.{Ranked, IsExecutionOrder, ranked_ids}
use Rattle.epx_types.specs.Readiness.{IsReady}
use Rattle.epx_types.specs.Sound.{IsSound, HasRemaining}
use Rattle.epx_merge.specs.Acceptance.{IsAccepted}
use Rattle.epx_report.specs.Bases.{IsBase}
use Rattle.epx_tool.specs.Answer.{IsAnswer}
use Rattle.epx_tool.specs.Report.{IsReport}
use Rattle.epx_tool.specs.ResumedReport.{IsReportAfter}
use Rattle.epx_tool.specs.Resumption.{Resumes}
use Rattle.epx_tool.specs.ReportedRuns.{run_in}

-- ---- each answer is a base

-- the instances that were done before or are executed now, each once, by increasing Id
pub record AreDoneAfterBoth (done executed now : List Id) : Type 0 where
  pub rising : IsRising now
  pub each : (x : Id) → Contains now x ↔ Contains done x ⊎ Contains executed x

-- The text is a base. Its done instances were done before or are executed now, in the execution
-- order of the remaining map. Its store is what the execution leaves.
pub record HasBaseAfter (done : List Id) (stored : Contents) (m : List Instance)
    (text : List ℕ) : Type 0 where
  pub order : List Ranked
  pub now : List Id
  pub ordered : IsExecutionOrder (remaining done m) order
  pub done_now : AreDoneAfterBoth done (ranked_ids order) now
  pub base : IsBase text now
      (execute (commands_in (remaining done m) (ranked_ids order)) stored).final

-- the report of logs is a base: what it executed is done, and the store is its final one
abbrev pub AnswerIsBase : Type 0
AnswerIsBase = (logs : List (List ℕ)) (text : List ℕ) → IsAnswer logs (Ok text)
    → (m : List Instance) → IsAccepted logs m → HasBaseAfter [] contents.empty m text

-- the report of logs that resumes from a base is a base: what was done before or is executed in it
-- is done, and the store is its final one
abbrev pub ResumptionIsBase : Type 0
ResumptionIsBase = (base : List ℕ) (logs : List (List ℕ)) (text : List ℕ)
    → Resumes base logs (Ok text) → (done : List Id) (stored : Contents) → IsBase base done stored
    → (m : List Instance) → IsAccepted logs m → HasBaseAfter done stored m text

-- ---- bases that are sound for a map

-- the text is a base that is sound for the map
pub record IsSoundBase (m : List Instance) (text : List ℕ) : Type 0 where
  pub done : List Id
  pub stored : Contents
  pub base : IsBase text done stored
  pub sound : IsSound m done stored

-- the report of a part of a map is a base that is sound for the whole map
abbrev pub ReportOfAPartIsSound : Type 0
ReportOfAPartIsSound = (m : List Instance) → IsRising (ids_of m) → (logs : List (List ℕ))
    → (part : List Instance) → IsAccepted logs part
    → ((e : Instance) → Contains part e → Contains m e)
    → (text : List ℕ) → IsAnswer logs (Ok text) → IsSoundBase m text

-- the base is sound for m, and the logs commit only instances of m and instances done in the base
pub record MayResume (m : List Instance) (base : List ℕ) (logs : List (List ℕ)) : Type 0 where
  pub rising : IsRising (ids_of m)
  pub before : IsSoundBase m base
  pub rest : List Instance
  pub accepted : IsAccepted logs rest
  pub has : HasRemaining m before.done rest

-- if a base is sound for a map, and logs commit only instances of the map and instances done in the
-- base, the report that resumes from it is a base that is sound for the same map
abbrev pub ResumedReportIsSound : Type 0
ResumedReportIsSound = (m : List Instance) (base : List ℕ) (logs : List (List ℕ)) (text : List ℕ)
    → MayResume m base logs → Resumes base logs (Ok text) → IsSoundBase m text

-- ---- the replies and the final store of resumed runs

-- the replies of a report
abbrev pub replies_by_report : (m : List Instance) (text : List ℕ) → IsReport m text
    → List (Id × Reply)
replies_by_report m text p =
    zip (ranked_ids p.order) (execute (commands_in m (ranked_ids p.order)) contents.empty).replies

-- the replies of a report that resumes from a base
abbrev pub replies_after : (done : List Id) (stored : Contents) (m : List Instance) (text : List ℕ)
    → IsReportAfter done stored m text → List (Id × Reply)
replies_after done stored m text p =
    zip (ranked_ids p.order) (run_in done stored m text p).replies

-- the text is the report after the base, and each of its replies is in the report of m too
pub record RepliesMatchWhole (m : List Instance) (base : List ℕ) (logs : List (List ℕ))
    (g : MayResume m base logs) (text whole : List ℕ) (q : IsReport m whole) : Type 0 where
  pub report : IsReportAfter g.before.done g.before.stored g.rest text
  pub each : (r : Id × Reply)
      → Contains (replies_after g.before.done g.before.stored g.rest text report) r
      → Contains (replies_by_report m whole q) r

-- if a map is covered, and a base and logs may be resumed for it (`MayResume`), each reply of the
-- resumed report is in the report of the whole map
abbrev pub ResumedReportRepeatsTheWhole : Type 0
ResumedReportRepeatsTheWhole =
    (m : List Instance) (base : List ℕ) (logs : List (List ℕ)) (g : MayResume m base logs)
    → IsCovered m → (text : List ℕ) → Resumes base logs (Ok text)
    → (whole : List ℕ) (q : IsReport m whole) → RepliesMatchWhole m base logs g text whole q

-- if all ready instances of covered logs are done in a sound base, the report of the logs is a
-- base too, with the same done instances and store
abbrev pub LastReportIsTheWhole : Type 0
LastReportIsTheWhole = (logs : List (List ℕ)) (m : List Instance) → IsAccepted logs m → IsCovered m
    → (text : List ℕ) (b : IsSoundBase m text) → ((x : Id) → IsReady m x → Contains b.done x)
    → (whole : List ℕ) → IsAnswer logs (Ok whole) → IsBase whole b.done b.stored

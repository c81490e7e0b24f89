-- Laws of answers.
use Rattle.std.specs.Prelude.{◌≡◌, ◌≢◌, ◌↔◌, ℕ, List, [], Result, Ok, Err}
use Rattle.epx_types.specs.declared.fault.Fault.{Fault}
use Rattle.epx_types.specs.declared.fault.Fault.TheVariants.{Memory}
use Rattle.epx_types.specs.Ids.{IsRising}
use Rattle.epx_types.specs.Instances.{Instance}
use Rattle.epx_types.specs.CommittedMap.{ids_of}
use Rattle.epx_types.specs.Conflicts.{IsCovered}
use Rattle.epx_merge.specs.Acceptance.{IsAccepted}
use Rattle.epx_report.specs.ViewLines.{covered_line}
use Rattle.epx_names.specs.Tasks.{HasInput}
use Rattle.epx_names.specs.declared.task.Task.{Task}
use Rattle.epx_names.specs.declared.task.Task.TheVariants.{Compare}
use Rattle.epx_tool.specs.declared.ask.Ask.{Ask}
use Rattle.epx_tool.specs.declared.ask.Ask.TheVariants.{Audit}
use Rattle.epx_tool.specs.Report.{IsReport}
use Rattle.epx_views.specs.OrderText.{IsOrderText}
use Rattle.epx_views.specs.LevelText.{IsLevelText}
use Rattle.epx_tool.specs.AuditText.{IsAuditText}
use Rattle.epx_tool.specs.TaskAnswers.{AnswersView}
use Rattle.epx_tool.specs.TaskTexts.{IsTaskText}
use Rattle.epx_tool.specs.Answer.{IsAnswer}

-- a committed map has a report
abbrev pub ReportExists : Type 0
ReportExists = (m : List Instance) → IsRising (ids_of m) → (text : List ℕ) × IsReport m text

-- a committed map has a text for each task that has no input (`HasInput`) and is not `Compare`: for
-- example its report, its execution order, and the trace of each key
abbrev pub MapTextExists : Type 0
MapTextExists = (task : Task) → ¬ HasInput task → task ≢ Compare → (m : List Instance)
    → IsRising (ids_of m) → (text : List ℕ) × IsTaskText task [] m text

-- a committed map has at most one report
abbrev pub ReportIsUnique : Type 0
ReportIsUnique = (m : List Instance) (text other : List ℕ) → IsReport m text → IsReport m other
    → text ≡ other

-- a committed map has at most one text of its execution order
abbrev pub OrderTextIsUnique : Type 0
OrderTextIsUnique = (m : List Instance) (text other : List ℕ) → IsOrderText m text
    → IsOrderText m other → text ≡ other

-- a committed map has at most one text of its conflict levels
abbrev pub LevelTextIsUnique : Type 0
LevelTextIsUnique = (m : List Instance) (text other : List ℕ) → IsLevelText m text
    → IsLevelText m other → text ≡ other

-- a committed map has at most one text of its audit
abbrev pub AuditTextIsUnique : Type 0
AuditTextIsUnique = (m : List Instance) (text other : List ℕ) → IsAuditText m text
    → IsAuditText m other → text ≡ other

-- every list of logs has an answer other than out of memory
abbrev pub AnswerExists : Type 0
AnswerExists = (logs : List (List ℕ)) → (a : Result (List ℕ) Fault) × (a ≢ Err Memory)
    × IsAnswer logs a

-- every list of logs has an answer to each view other than out of memory
abbrev pub ViewExists : Type 0
ViewExists = (ask : Ask) (logs : List (List ℕ)) → (a : Result (List ℕ) Fault) × (a ≢ Err Memory)
    × AnswersView ask logs a

-- logs have at most one answer, except for out of memory
abbrev pub AnswerIsUnique : Type 0
AnswerIsUnique = (logs : List (List ℕ)) (a b : Result (List ℕ) Fault) → a ≢ Err Memory
    → b ≢ Err Memory → IsAnswer logs a → IsAnswer logs b → a ≡ b

-- logs have at most one answer to each view, except for out of memory
abbrev pub ViewIsUnique : Type 0
ViewIsUnique = (ask : Ask) (logs : List (List ℕ)) (a b : Result (List ℕ) Fault) → a ≢ Err Memory
    → b ≢ Err Memory → AnswersView ask logs a → AnswersView ask logs b → a ≡ b

-- the audit of accepted logs is answered with the line `["covered"]` exactly if the map that they
-- commit is covered
abbrev pub CoveredTextMeansCovered : Type 0
CoveredTextMeansCovered = (logs : List (List ℕ)) (m : List Instance) → IsAccepted logs m →
    AnswersView Audit logs (Ok covered_line) ↔ IsCovered m

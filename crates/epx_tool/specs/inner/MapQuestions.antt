-- What tasks ask of a committed map, and the texts that answer it.
use Rattle.std.specs.Prelude.{◌≢◌, ◌↔◌, ◌≡◌, ℕ, Bool, true, List, Result, Ok, Err}
use Rattle.epx_types.specs.declared.fault.Fault.{Fault}
use Rattle.epx_types.specs.Done.{remaining}
use Rattle.epx_types.specs.Instances.{Instance}
use Rattle.epx_merge.specs.Acceptance.{IsAccepted}
use Rattle.epx_names.specs.declared.task.Task.{Task}
use Rattle.epx_names.specs.declared.task.Task.TheVariants as about
use Rattle.epx_report.specs.declared.base.BaseFault.{BaseFault}
use Rattle.epx_report.specs.Bases.{IsBaseFault}
use Rattle.epx_report.specs.Lists.{IsListFault}
use Rattle.epx_report.specs.ViewLines.{covered_line, lawful_line}
use Rattle.epx_neighbours.specs.UncoveredTexts.{IsUncoveredText}
use Rattle.epx_picture.specs.Pictures.{IsPicture}
use Rattle.epx_picture.specs.PicturesAround.{IsPictureAround}
use Rattle.epx_why.specs.WhyTexts.{IsWhyText, IsPathText}
use Rattle.epx_trace.specs.TraceTexts.{IsTraceText}
use Rattle.epx_tool.specs.declared.question.MapQuestion.{MapQuestion}
use Rattle.epx_tool.specs.declared.question.MapQuestion.TheVariants.{Report, Resume, Order, Levels}
use Rattle.epx_tool.specs.declared.question.MapQuestion.TheVariants.{Blockers}
use Rattle.epx_tool.specs.declared.question.MapQuestion.TheVariants.{Audit, AuditAll, Graph, Around}
use Rattle.epx_tool.specs.declared.question.MapQuestion.TheVariants.{Why, Path, Trace}
use Rattle.epx_tool.specs.declared.question.MapQuestion.TheVariants.{Check, CheckPrefix}
use Rattle.epx_tool.specs.declared.question.MapQuestion.TheVariants.{Replay, Verify, Linear}
use Rattle.epx_blockers.specs.BlockerTexts.{IsBlockersText}
use Rattle.epx_tool.specs.AuditText.{IsAuditText}
use Rattle.epx_tool.specs.Findings.{FindsIn, SomeWaits}
use Rattle.epx_views.specs.LevelText.{IsLevelText}
use Rattle.epx_views.specs.OrderText.{IsOrderText}
use Rattle.epx_tool.specs.Report.{IsReport}
use Rattle.epx_tool.specs.ResumedReport.{IsReportAfter}
use Rattle.epx_tool.specs.TaskAnswers.{IsBadInput}
use Rattle.epx_tool.specs.TaskTexts.{IsTaskText}
use Rattle.epx_tool.specs.Verdicts.{IsPrefixVerdict, IsSaidVerdict, IsVerdict}
use Rattle.epx_tool.specs.WithInput.{IsShort, IsRefusalWithInput}
use Rattle.epx_linear.specs.HistoryTexts.{IsHistoryFault}
use Rattle.epx_linear.specs.LinearTexts.{IsLinearText, linear_line}
use Rattle.epx_verify.specs.ListExecutions.{replay_text}
use Rattle.epx_verify.specs.SaidTexts.{IsSaidFault}

-- the text that answers a question about a committed map
abbrev pub IsTextOf : MapQuestion → List Instance → List ℕ → Type 0
IsTextOf Report = IsReport
IsTextOf (Resume base) = IsReportAfter base.done base.stored
IsTextOf Order = IsOrderText
IsTextOf Levels = IsLevelText
IsTextOf Blockers = IsBlockersText
IsTextOf Audit = IsAuditText
IsTextOf AuditAll = IsUncoveredText
IsTextOf Graph = IsPicture
IsTextOf (Around x steps) = λ m. IsPictureAround m x steps
IsTextOf (Why x) = λ m. IsWhyText m x
IsTextOf (Path x y) = λ m. IsPathText m x y
IsTextOf (Trace key reads) = λ m. IsTraceText m key.text.bytes reads
IsTextOf (Check ids) = λ m. IsVerdict m ids.items
IsTextOf (CheckPrefix ids) = λ m. IsPrefixVerdict m ids.items
IsTextOf (Replay ids) = λ m text. text ≡ replay_text m ids.items
IsTextOf (Verify said) = λ m. IsSaidVerdict m said.replies.items said.store
IsTextOf (Linear history) = λ m. IsLinearText m history

-- the text that answers the question finds something, as `FindsIn` says it of tasks
abbrev pub FindsOf : MapQuestion → List Instance → List ℕ → Type 0
FindsOf Report m text = SomeWaits m
FindsOf (Resume base) m text = SomeWaits (remaining base.done m)
FindsOf Order m text = SomeWaits m
FindsOf Levels m text = SomeWaits m
FindsOf Blockers m text = SomeWaits m
FindsOf Audit m text = text ≢ covered_line
FindsOf AuditAll m text = text ≢ covered_line
FindsOf (Check ids) m text = text ≢ lawful_line
FindsOf (CheckPrefix ids) m text = text ≢ lawful_line
FindsOf (Verify said) m text = text ≢ lawful_line
FindsOf (Linear history) m text = text ≢ linear_line
FindsOf _ m text = ⊥

-- the text that answers the question, and whether it finds something
abbrev pub IsFindingOf : MapQuestion → Bool → List Instance → List ℕ → Type 0
IsFindingOf question found m text =
    IsTextOf question m text × ((found ≡ true) ↔ FindsOf question m text)

-- a task with this input asks the question: what answers the question answers the task
pub record TaskAsks (task : Task) (input : List ℕ) (question : MapQuestion) : Type 0 where
  pub of_map : task ≢ about.Compare
  pub text : (m : List Instance) (text : List ℕ) → IsTextOf question m text
      → IsTaskText task input m text
  pub finds : (m : List Instance) (text : List ℕ) → FindsOf question m text
      ↔ FindsIn task input m text

-- why the input of the task is not read
abbrev pub IsInputFault : Task → List ℕ → BaseFault → Type 0
IsInputFault about.Resume = IsBaseFault
IsInputFault about.Verify = IsSaidFault
IsInputFault (about.Linear skew) = IsHistoryFault
IsInputFault _ = IsListFault

-- the logs are accepted and the input is read, or they are refused
abbrev pub IsTaskReading : Task → List ℕ → List (List ℕ)
    → Result (List Instance × MapQuestion) Fault → Type 0
IsTaskReading task input logs (Ok read) =
    IsShort input × IsAccepted logs read.0 × TaskAsks task input read.1
IsTaskReading task input logs (Err fault) =
    IsRefusalWithInput (IsBadInput task) input logs fault

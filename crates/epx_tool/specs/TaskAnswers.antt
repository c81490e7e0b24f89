-- The answers to tasks.
use Rattle.std.specs.Prelude.{ℕ, List, [], Result}
use Rattle.epx_types.specs.declared.fault.Fault.{Fault}
use Rattle.epx_report.specs.Bases.{IsBadBase}
use Rattle.epx_report.specs.Lists.{IsBadList}
use Rattle.epx_compare.specs.ComparisonAnswers.{Compares}
use Rattle.epx_names.specs.declared.task.Task.{Task}
use Rattle.epx_names.specs.declared.task.Task.TheVariants as task
use Rattle.epx_tool.specs.declared.ask.Ask.{Ask}
use Rattle.epx_tool.specs.declared.ask.Ask.TheVariants.{Order, Levels, Blockers, Audit}
use Rattle.epx_tool.specs.declared.ask.Ask.TheVariants.{AuditAll, Graph, Around, Why, Path, Trace}
use Rattle.epx_tool.specs.declared.ask.Ask.TheVariants.{Compare}
use Rattle.epx_tool.specs.Answer.{Answers}
use Rattle.epx_tool.specs.TaskTexts.{IsTaskText}
use Rattle.epx_tool.specs.WithInput.{AnswersWithInput}
use Rattle.epx_linear.specs.HistoryTexts.{IsBadHistory}
use Rattle.epx_verify.specs.SaidTexts.{IsBadSaid}

-- the task that shows a view
abbrev pub task_of : Ask → Task
task_of Order = task.Order
task_of Levels = task.Levels
task_of Blockers = task.Blockers
task_of Audit = task.Audit
task_of AuditAll = task.AuditAll
task_of Graph = task.Graph
task_of (Around x steps) = task.Around x steps
task_of (Why x) = task.Why x
task_of (Path x y) = task.Path x y
task_of (Trace key reads) = task.Trace key reads
task_of Compare = task.Compare

-- the answer to a task without an input: for `Compare` the comparison of the logs, otherwise the
-- text of the map that they commit; or their first refusal
abbrev pub AnswersLogs : Task → List (List ℕ) → Result (List ℕ) Fault → Type 0
AnswersLogs task.Compare = Compares
AnswersLogs task = Answers (IsTaskText task [])

-- the answer to the question of a view: a text of the map that logs commit, or a comparison
abbrev pub AnswersView : Ask → List (List ℕ) → Result (List ℕ) Fault → Type 0
AnswersView ask = AnswersLogs (task_of ask)

-- the input of the task, a base, a list, what a replica said or a history of calls, has a bad line,
-- and this is the first
abbrev pub IsBadInput : Task → List ℕ → ℕ → Type 0
IsBadInput task.Resume = IsBadBase
IsBadInput task.Verify = IsBadSaid
IsBadInput (task.Linear skew) = IsBadHistory
IsBadInput _ = IsBadList

-- the answer to a task over an input and logs; a task without an input ignores it
abbrev pub AnswersTask : Task → List ℕ → List (List ℕ) → Result (List ℕ) Fault → Type 0
AnswersTask task.Resume = AnswersWithInput IsBadBase (IsTaskText task.Resume)
AnswersTask task.Check = AnswersWithInput IsBadList (IsTaskText task.Check)
AnswersTask task.CheckPrefix = AnswersWithInput IsBadList (IsTaskText task.CheckPrefix)
AnswersTask task.Replay = AnswersWithInput IsBadList (IsTaskText task.Replay)
AnswersTask task.Verify = AnswersWithInput IsBadSaid (IsTaskText task.Verify)
AnswersTask (task.Linear skew) = AnswersWithInput IsBadHistory (IsTaskText (task.Linear skew))
AnswersTask task = λ input. AnswersLogs task

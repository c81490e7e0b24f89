-- What an answer finds, and answers with whether they find something.
use Rattle.std.specs.Prelude.{◌≡◌, ◌≢◌, ◌↔◌, ℕ, Bool, true, List, [], Result, Ok, Err}
use Rattle.epx_types.specs.declared.fault.Fault.{Fault}
use Rattle.epx_types.specs.declared.id.Id.{Id}
use Rattle.epx_types.specs.Contents.{Contents}
use Rattle.epx_types.specs.Done.{remaining}
use Rattle.epx_types.specs.Instances.{Instance}
use Rattle.epx_types.specs.Readiness.{WaitsFor}
use Rattle.epx_compare.specs.Comparisons.{HasFindings}
use Rattle.epx_compare.specs.ComparisonAnswers.{Compares}
use Rattle.epx_report.specs.Bases.{IsBase}
use Rattle.epx_report.specs.ViewLines.{covered_line, lawful_line}
use Rattle.epx_linear.specs.LinearTexts.{linear_line}
use Rattle.epx_names.specs.declared.task.Task.{Task}
use Rattle.epx_names.specs.declared.task.Task.TheVariants.{Run, Order, Levels, Blockers, Audit}
use Rattle.epx_names.specs.declared.task.Task.TheVariants.{AuditAll, Resume, Check, CheckPrefix}
use Rattle.epx_names.specs.declared.task.Task.TheVariants.{Compare, Verify, Linear}
use Rattle.epx_tool.specs.declared.findings.Answer.{Answer}
use Rattle.epx_tool.specs.Answer.{Answers}
use Rattle.epx_tool.specs.TaskTexts.{IsTaskText}

-- an instance of the map waits for a missing one
abbrev pub SomeWaits : List Instance → Type 0
SomeWaits m = (x y : Id) × WaitsFor m x y

-- the answer to a task finds something: in `run`, `order`, `levels` and `blockers` an instance
-- waits; in `resume` one that the base does not say is done; in `audit`, `check`, `verify` and
-- `linear` the text is not just `["covered"]`, `["lawful"]` or `["linear"]`; and in others nothing
abbrev pub FindsIn : Task → List ℕ → List Instance → List ℕ → Type 0
FindsIn Run input m text = SomeWaits m
FindsIn Order input m text = SomeWaits m
FindsIn Levels input m text = SomeWaits m
FindsIn Blockers input m text = SomeWaits m
FindsIn Audit input m text = text ≢ covered_line
FindsIn AuditAll input m text = text ≢ covered_line
FindsIn Resume base m text = (done : List Id) × (stored : Contents) × IsBase base done stored
    × SomeWaits (remaining done m)
FindsIn Check list m text = text ≢ lawful_line
FindsIn CheckPrefix list m text = text ≢ lawful_line
FindsIn Verify said m text = text ≢ lawful_line
FindsIn (Linear skew) history m text = text ≢ linear_line
FindsIn _ input m text = ⊥

-- the text answers the task over an input and a committed map, and `found` is whether it finds
-- something
abbrev pub IsFindingText : Task → Bool → List ℕ → List Instance → List ℕ → Type 0
IsFindingText task found input m text =
    IsTaskText task input m text × ((found ≡ true) ↔ FindsIn task input m text)

-- the comparison of logs, where `found` is whether something is wrong with them: bad lines, lines
-- that differ, or instances that a log lacks; or their first refusal
abbrev pub ComparesFinding : Bool → List (List ℕ) → Result (List ℕ) Fault → Type 0
ComparesFinding found logs (Ok text) =
    Compares logs (Ok text) × ((found ≡ true) ↔ HasFindings logs)
ComparesFinding found logs (Err fault) = Compares logs (Err fault)

-- the answer to a task without an input, and `found` is whether it finds something
abbrev pub AnswersFinding : Task → Bool → List (List ℕ) → Result (List ℕ) Fault → Type 0
AnswersFinding Compare found = ComparesFinding found
AnswersFinding task found = Answers (IsFindingText task found [])

-- whether the answer of a run finds something, or the fault of the run
abbrev pub found_of : Result Answer Fault → Result Bool Fault
found_of (Ok answer) = Ok answer.has_findings
found_of (Err fault) = Err fault

-- Laws of what answers find. They say what status 5 of an audit and of a check means.
use Rattle.std.specs.Prelude.{◌≡◌, ◌↔◌, ℕ, Bool, true, List, Result, Ok}
use Rattle.epx_types.specs.declared.fault.Fault.{Fault}
use Rattle.epx_types.specs.declared.id.Id.{Id}
use Rattle.epx_types.specs.Instances.{Instance}
use Rattle.epx_types.specs.Conflicts.{IsCovered}
use Rattle.epx_types.specs.LawfulPrefixes.{IsLawfulPrefix}
use Rattle.epx_types.specs.LawfulOrders.{IsLawful}
use Rattle.epx_merge.specs.Acceptance.{IsAccepted}
use Rattle.epx_report.specs.Lists.{IsList}
use Rattle.epx_names.specs.declared.task.Task.{Task}
use Rattle.epx_names.specs.declared.task.Task.TheVariants.{Audit, Check, CheckPrefix}
use Rattle.epx_tool.specs.Findings.{AnswersFinding, IsFindingText}
use Rattle.epx_tool.specs.TaskAnswers.{IsBadInput}
use Rattle.epx_tool.specs.WithInput.{AnswersWithInput}

-- the answer to a task over its input and logs: a text, where the Bool is whether it finds
-- something (`FindsIn`), or the first refusal
abbrev pub AnswersFindingWith : Task → Bool → List ℕ → List (List ℕ)
    → Result (List ℕ) Fault → Type 0
AnswersFindingWith task found =
    AnswersWithInput (IsBadInput task) (IsFindingText task found)

-- an audit that answers accepted logs with a text finds something exactly if the map that they
-- commit is not covered
abbrev pub AuditFindsNotCovered : Type 0
AuditFindsNotCovered = (logs : List (List ℕ)) (m : List Instance) → IsAccepted logs m
    → (found : Bool) (text : List ℕ) → AnswersFinding Audit found logs (Ok text)
    → (found ≡ true) ↔ (¬ IsCovered m)

-- a check that answers a list and accepted logs with a text finds something exactly if the list is
-- not a lawful order of what they commit, or, checked as a prefix, not a prefix of one
pub record CheckFindsNotLawful : Type 0 where
  pub order : (list : List ℕ) (logs : List (List ℕ)) (ids : List Id) (m : List Instance)
      → IsList list ids → IsAccepted logs m → (found : Bool) (text : List ℕ)
      → AnswersFindingWith Check found list logs (Ok text) → (found ≡ true) ↔ (¬ IsLawful m ids)
  pub prefix : (list : List ℕ) (logs : List (List ℕ)) (ids : List Id) (m : List Instance)
      → IsList list ids → IsAccepted logs m → (found : Bool) (text : List ℕ)
      → AnswersFindingWith CheckPrefix found list logs (Ok text)
      → (found ≡ true) ↔ (¬ IsLawfulPrefix m ids)

-- How reading an extra input and logs ends, and how answering a task over them ends.
use Rattle.std.specs.Prelude.{◌≡◌, ◌⊎◌, ℕ, List, length, Some, Result, Ok, Err, IfOk, IfErr}
use Rattle.std.specs.Prelude.{IsErrOf, MatchResult}
use Rattle.epx_types.specs.declared.fault.Fault.{Fault}
use Rattle.epx_types.specs.declared.fault.Fault.TheVariants.{Write}
use Rattle.epx_devices.specs.Models.{SourceModel}
use Rattle.epx_merge.specs.Refusals.{FitLimits}
use Rattle.epx_names.specs.Tasks.{HasInput}
use Rattle.epx_names.specs.declared.task.Task.{Task}
use Rattle.epx_tool.specs.declared.findings.Answer.{Answer}
use Rattle.epx_tool.specs.DeliveredWithInput.{DeliversBoth, StopsReadingBoth}
use Rattle.epx_tool.specs.Findings.{AnswersFinding, IsFindingText}
use Rattle.epx_merge.specs.ReadingRefusals.{AreBytesOf}
use Rattle.epx_tool.specs.RunsWithInput.{IsReadingRefusalWithInput}
use Rattle.epx_tool.specs.Sources.{LeavesInput}
use Rattle.epx_merge.specs.SourceEndings.{LeavesSources}
use Rattle.epx_tool.specs.TaskAnswers.{AnswersLogs, IsBadInput}
use Rattle.epx_tool.specs.TaskTexts.{IsTaskText}
use Rattle.epx_tool.specs.WithInput.{AnswersWithInput, IsShort}
use Rattle.epx_merge.specs.between.SourceReadings.{EndsMaking}

-- In these definitions E is the model of the source of the extra input, and D that of the logs.

-- how reading logs and then an extra input ends: with both, or with a fault
pub record EndsReadingBoth {I S : Type 0} (E : SourceModel I) (D : SourceModel S) (first last : I)
    (old new : List S) (result : Result (List ℕ × List (List ℕ)) Fault) : Type 0 where
  -- both are within the limits, and are the bytes that the sources had and delivered
  pub text : IfOk result (λ v. (before : List ℕ) → E.remaining first ≡ Some before → v.0 ≡ before)
  pub bytes : IfOk result (λ v. (logs : List (List ℕ)) → AreBytesOf D old logs → v.1 ≡ logs)
  pub short : IfOk result (λ v. IsShort v.0)
  pub fit : IfOk result (λ v. FitLimits v.1)
  pub delivered : IfOk result (λ v. DeliversBoth E D first last old new v.0 v.1)
  -- the fault is one of reading
  pub refusal : IfErr result (λ fault. (before : List ℕ) (logs : List (List ℕ))
      → E.remaining first ≡ Some before → AreBytesOf D old logs
      → IsReadingRefusalWithInput before logs fault)
  pub stopped : IfErr result (StopsReadingBoth E D first last old new)
  pub nothing_written : ¬ IsErrOf result Write
  pub sources : LeavesSources D old new result
  pub input : LeavesInput E first last (length old) result

-- how reading both ends, and what is then made of them
abbrev pub EndsMakingBoth : {I S T : Type 0} → SourceModel I → SourceModel S
    → (List ℕ → List (List ℕ) → Result T Fault → Type 0) → I → I → List S → List S
    → Result T Fault → Type 0
EndsMakingBoth E D Made first last old new (Ok made) = (input : List ℕ) × (logs : List (List ℕ))
    × EndsReadingBoth E D first last old new (Ok (input, logs)) × Made input logs (Ok made)
EndsMakingBoth E D Made first last old new (Err fault) =
    EndsReadingBoth E D first last old new (Err fault)
    ⊎ ((input : List ℕ) × (logs : List (List ℕ))
    × EndsReadingBoth E D first last old new (Ok (input, logs)) × Made input logs (Err fault))

-- how answering a task over both ends; a task without an input leaves its source untouched
pub record EndsAnswering {I S : Type 0} (E : SourceModel I) (D : SourceModel S) (task : Task)
    (first last : I) (old new : List S) (result : Result Answer Fault) : Type 0 where
  pub with_input : HasInput task → MatchResult result
      (λ a. EndsMakingBoth E D (AnswersWithInput (IsBadInput task)
      (IsFindingText task a.has_findings)) first last old new (Ok a.text.items))
      (λ fault. EndsMakingBoth E D (AnswersWithInput (IsBadInput task) (IsTaskText task))
      first last old new (Err fault))
  pub alone : ¬ HasInput task → MatchResult result
      (λ a. EndsMaking D (AnswersFinding task a.has_findings) old new (Ok a.text.items))
      (λ fault. EndsMaking D (AnswersLogs task) old new (Err fault))
  pub untouched : ¬ HasInput task → last ≡ first

-- What answers a question about a committed map answers the task that asks it.
use Rattle.std.proofs.Common.{◌≢◌, ℕ, Bool, List, [], Result, Ok, Err, refl, inl, inr, subst}
use Rattle.epx_types.proofs.Common.{MatchResult, remaining, Instance}
use Rattle.epx_types.specs.declared.fault.Fault.{Fault}
use Rattle.epx_devices.specs.Models.{SourceModel}
use Rattle.epx_merge.specs.Refusals.{IsRefusal}
use Rattle.epx_names.specs.Tasks.{HasInput}
use Rattle.epx_names.specs.declared.task.Task.{Task}
use Rattle.epx_names.specs.declared.task.Task.TheVariants as about
use Rattle.epx_report.proofs.BaseLemmas.{BaseSaysOneThing-holds}
use Rattle.epx_report.specs.Bases.{IsBase}
use Rattle.epx_report.specs.between.DoneAndStored.{DoneAndStored}
use Rattle.epx_tool.specs.declared.ask.Ask.{Ask}
use Rattle.epx_tool.specs.declared.ask.Ask.TheVariants.{Compare}
use Rattle.epx_tool.specs.declared.findings.Answer.{Answer}
use Rattle.epx_tool.specs.declared.question.MapQuestion.{MapQuestion}
use Rattle.epx_tool.specs.declared.question.MapQuestion.TheVariants.{Resume}
use Rattle.epx_tool.specs.Answer.{Answers}
use Rattle.epx_tool.specs.Findings.{AnswersFinding, IsFindingText, SomeWaits}
use Rattle.epx_tool.specs.TaskAnswers.{AnswersLogs, AnswersTask, IsBadInput, task_of}
use Rattle.epx_tool.specs.TaskTexts.{IsTaskText}
use Rattle.epx_tool.specs.WithInput.{AnswersWithInput, IsRefusalWithInput}
use Rattle.epx_tool.specs.inner.MapQuestions.{TaskAsks, IsFindingOf, IsTextOf}
use Rattle.epx_merge.specs.between.SourceReadings.{EndsMaking}
use Rattle.epx_tool.specs.inner.TaskReadings.{EndsMakingBoth, EndsReadingBoth}

-- ---- questions that read an input

pub TaskAsks-resume : (input : List ℕ) (base : DoneAndStored) → IsBase input base.done base.stored
    → TaskAsks about.Resume input (Resume base)
TaskAsks-resume input base is = record {
  of_map = λ same. cc same;
  text = λ m text h. (base.done, base.stored, is, h);
  finds = λ m text. (
    λ h. (base.done, base.stored, is, h),
    λ h. subst (λ done. SomeWaits (remaining done m))
        (BaseSaysOneThing-holds input h.0 base.done h.1 base.stored h.2 is).0 h.3,
  );
}

-- ---- answers to tasks

pub HasInput-not_view : (ask : Ask) → ¬ HasInput (task_of ask)
HasInput-not_view Compare h = h
HasInput-not_view ask h = h

pub IsFindingText-asked : (asked : Task) (input : List ℕ) (question : MapQuestion)
    → TaskAsks asked input question → (found : Bool) (m : List Instance) (text : List ℕ)
    → IsFindingOf question found m text → IsFindingText asked found input m text
IsFindingText-asked asked input question asks found m text h =
    let finds = asks.finds m text in
    (asks.text m text h.0, (λ e. finds.0 (h.1.0 e), λ f. h.1.1 (finds.1 f)))

-- a task with an input
pub AnswersTask-with_input : (asked : Task) → HasInput asked → (found : Bool) (input : List ℕ)
    (logs : List (List ℕ)) (text : List ℕ)
    → AnswersWithInput (IsBadInput asked) (IsFindingText asked found) input logs (Ok text)
    → AnswersTask asked input logs (Ok text)
AnswersTask-with_input about.Resume has found input logs text h = (h.0, (h.1.0, h.1.1, h.1.2.0))
AnswersTask-with_input about.Check has found input logs text h = (h.0, (h.1.0, h.1.1, h.1.2.0))
AnswersTask-with_input about.CheckPrefix has found input logs text h =
    (h.0, (h.1.0, h.1.1, h.1.2.0))
AnswersTask-with_input about.Replay has found input logs text h = (h.0, (h.1.0, h.1.1, h.1.2.0))
AnswersTask-with_input about.Verify has found input logs text h = (h.0, (h.1.0, h.1.1, h.1.2.0))
AnswersTask-with_input (about.Linear skew) has found input logs text h =
    (h.0, (h.1.0, h.1.1, h.1.2.0))
AnswersTask-with_input asked has found input logs text h = absurd has

pub AnswersTask-refused_input : (asked : Task) → HasInput asked → (input : List ℕ)
    (logs : List (List ℕ)) (fault : Fault)
    → IsRefusalWithInput (IsBadInput asked) input logs fault
    → AnswersTask asked input logs (Err fault)
AnswersTask-refused_input about.Resume has input logs fault h = h
AnswersTask-refused_input about.Check has input logs fault h = h
AnswersTask-refused_input about.CheckPrefix has input logs fault h = h
AnswersTask-refused_input about.Replay has input logs fault h = h
AnswersTask-refused_input about.Verify has input logs fault h = h
AnswersTask-refused_input (about.Linear skew) has input logs fault h = h
AnswersTask-refused_input asked has input logs fault h = absurd has

-- a task without an input that is no comparison
module _ (logs : List (List ℕ)) where
  pub AnswersLogs-text : (asked : Task) → asked ≢ about.Compare → (text : List ℕ)
      → Answers (IsTaskText asked []) logs (Ok text) → AnswersLogs asked logs (Ok text)
  AnswersLogs-text about.Compare other text h = absurd (other refl)
  AnswersLogs-text asked other text h = h

  pub AnswersLogs-refusal : (asked : Task) → asked ≢ about.Compare → (fault : Fault)
      → IsRefusal logs fault → AnswersLogs asked logs (Err fault)
  AnswersLogs-refusal about.Compare other fault h = absurd (other refl)
  AnswersLogs-refusal asked other fault h = h

  finds_logs : (asked : Task) → asked ≢ about.Compare → (found : Bool) (text : List ℕ)
      → Answers (IsFindingText asked found []) logs (Ok text)
      → AnswersFinding asked found logs (Ok text)
  finds_logs about.Compare other found text h = absurd (other refl)
  finds_logs asked other found text h = h

module _ {S : Type 0} (D : SourceModel S) (old new : List S) (asked : Task)
    (question : MapQuestion) (asks : TaskAsks asked [] question) where
  -- the answer to the question, over sources, is that to the task
  pub EndsMaking-of_question : (result : Result Answer Fault)
      → MatchResult result
      (λ a. EndsMaking D (Answers (IsFindingOf question a.has_findings)) old new (Ok a.text.items))
      (λ fault. EndsMaking D (Answers (IsTextOf question)) old new (Err fault))
      → MatchResult result
      (λ a. EndsMaking D (AnswersFinding asked a.has_findings) old new (Ok a.text.items))
      (λ fault. EndsMaking D (AnswersLogs asked) old new (Err fault))
  EndsMaking-of_question (Ok a) h =
      let text = a.text.items in
      let found = a.has_findings in (
        h.0,
        h.1,
        finds_logs h.0 asked asks.of_map found text
            (h.2.0, h.2.1, IsFindingText-asked asked [] question asks found h.2.0 text h.2.2),
      )
  EndsMaking-of_question (Err fault) (inl read) = inl read
  EndsMaking-of_question (Err fault) (inr h) =
      inr (h.0, h.1, AnswersLogs-refusal h.0 asked asks.of_map fault h.2)

-- what is made of an input and logs, once both are read
module _ {I S : Type 0} (E : SourceModel I) (D : SourceModel S) (first last : I) (old new : List S)
    (input : List ℕ) (logs : List (List ℕ))
    (read : EndsReadingBoth E D first last old new (Ok (input, logs))) where
  pub EndsMakingBoth-made : {T : Type 0} (Made : List ℕ → List (List ℕ) → Result T Fault → Type 0)
      (result : Result T Fault) → Made input logs result
      → EndsMakingBoth E D Made first last old new result
  EndsMakingBoth-made Made (Ok made) h = (input, logs, read, h)
  EndsMakingBoth-made Made (Err fault) h = inr (input, logs, read, h)

-- An input and logs that are read from memory: no read fails.
use Rattle.std.proofs.Common.{ℕ, List, Ok, Err, inl, inr, refl, subst}
use Rattle.epx_types.specs.declared.fault.Fault.{Fault}
use Rattle.epx_types.specs.declared.fault.Fault.TheVariants.{TooManyLogs, LogTooLong, BadLine}
use Rattle.epx_types.specs.declared.fault.Fault.TheVariants.{TooManyInstances, Disagree, Read}
use Rattle.epx_types.specs.declared.fault.Fault.TheVariants.{BadBase, Memory, Write}
use Rattle.epx_devices.specs.MemoryDevices.{memory_source}
use Rattle.epx_names.specs.Tasks.{HasInput}
use Rattle.epx_names.specs.declared.task.Task.{Task}
use Rattle.epx_tool.specs.declared.findings.Answer.{Answer}
use Rattle.epx_tool.specs.DeliveredWithInput.{StopsReadingBoth}
use Rattle.epx_tool.specs.Findings.{IsFindingText}
use Rattle.epx_tool.specs.RunsWithInput.{IsReadingRefusalWithInput}
use Rattle.epx_tool.specs.TaskAnswers.{AnswersTask, IsBadInput}
use Rattle.epx_tool.specs.TaskTexts.{IsTaskText}
use Rattle.epx_tool.specs.WithInput.{AnswersWithInput, IsRefusalWithInput}
use Rattle.epx_tool.specs.inner.TaskReadings.{EndsMakingBoth}
use Rattle.epx_tool.proofs.QuestionLemmas.{AnswersTask-with_input, AnswersTask-refused_input}

module _ (input last : List ℕ) (logs new : List (List ℕ)) where
  no_read_fails : (log : ℕ)
      → StopsReadingBoth memory_source memory_source input last logs new (Read log) → ⊥
  no_read_fails log (inl (inl none)) = none
  no_read_fails log (inl (inr source)) = source.stopped.1.failed
  no_read_fails log (inr at_input) = at_input.stopped.1.failed

  -- reading them is refused for the limits alone
  limit_refusal : (IsBad : List ℕ → ℕ → Type 0) (fault : Fault)
      → StopsReadingBoth memory_source memory_source input last logs new fault
      → IsReadingRefusalWithInput input logs fault → IsRefusalWithInput IsBad input logs fault
  limit_refusal IsBad Memory stops h = h
  limit_refusal IsBad TooManyLogs stops h = h
  limit_refusal IsBad (LogTooLong log) stops h = h
  limit_refusal IsBad (BadLine place why) stops h = absurd h
  limit_refusal IsBad TooManyInstances stops h = absurd h
  limit_refusal IsBad (Disagree id first second) stops h = absurd h
  limit_refusal IsBad (Read log) stops h = absurd (no_read_fails log stops)
  limit_refusal IsBad Write stops h = absurd h
  limit_refusal IsBad (BadBase line) stops h = absurd h

  module _ (task : Task) (has : HasInput task) where
    pub AnswersTask-memory_text : (answer : Answer)
        → EndsMakingBoth memory_source memory_source (AnswersWithInput (IsBadInput task)
        (IsFindingText task answer.has_findings)) input last logs new (Ok answer.text.items)
        → AnswersTask task input logs (Ok answer.text.items)
    AnswersTask-memory_text answer (given, lines, read, h) =
        let text = answer.text.items in
        let found = answer.has_findings in
        let Answered : List ℕ → List (List ℕ) → Type 0 = λ i l.
        AnswersWithInput (IsBadInput task) (IsFindingText task found) i l (Ok text) in
        AnswersTask-with_input task has found input logs text
        (subst (λ i. Answered i logs) (read.text input refl)
        (subst (λ l. Answered given l) (read.bytes logs refl) h))

    pub AnswersTask-memory_refusal : (fault : Fault)
        → EndsMakingBoth {T = List ℕ} memory_source memory_source (AnswersWithInput
        (IsBadInput task) (IsTaskText task)) input last logs new (Err fault)
        → AnswersTask task input logs (Err fault)
    AnswersTask-memory_refusal fault (inl read) =
        AnswersTask-refused_input task has input logs fault
        (limit_refusal (IsBadInput task) fault read.stopped (read.refusal input logs refl refl))
    AnswersTask-memory_refusal fault (inr (given, lines, read, h)) =
        let Refused : List ℕ → List (List ℕ) → Type 0 = λ i l.
        IsRefusalWithInput (IsBadInput task) i l fault in
        AnswersTask-refused_input task has input logs fault
        (subst (λ i. Refused i logs) (read.text input refl)
        (subst (λ l. Refused given l) (read.bytes logs refl) h))

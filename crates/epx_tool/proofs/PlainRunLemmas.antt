-- Runs that say what their answer finds, without it.
use Rattle.std.proofs.Common.{ℕ, Bool, List, Ok}
use Rattle.epx_devices.specs.Models.{SinkModel, SourceModel}
use Rattle.epx_names.specs.declared.task.Task.{Task}
use Rattle.epx_names.specs.declared.task.Task.TheVariants.{Compare}
use Rattle.epx_tool.specs.Findings.{AnswersFinding, IsFindingText}
use Rattle.epx_tool.specs.RunEndings.{EndsRun, EndsRunWithInput, sink_run}
use Rattle.epx_tool.specs.TaskAnswers.{AnswersLogs, IsBadInput}
use Rattle.epx_tool.specs.TaskTexts.{IsTaskText}
use Rattle.epx_tool.specs.WithInput.{AnswersWithInput}
use Rattle.epx_merge.specs.between.SourceReadings.{EndsMaking}
use Rattle.epx_tool.specs.inner.TaskReadings.{EndsMakingBoth}
use Rattle.epx_tool.proofs.RunEndingLemmas.{WritesAnswer-weaker}

pub AnswersLogs-plain : (task : Task) (found : Bool) (logs : List (List ℕ)) (text : List ℕ)
    → AnswersFinding task found logs (Ok text) → AnswersLogs task logs (Ok text)
AnswersLogs-plain Compare found logs text h = h.0
AnswersLogs-plain task found logs text h = (h.0, h.1, h.2.0)

pub AnswersWithInput-plain : (task : Task) (found : Bool) (input : List ℕ) (logs : List (List ℕ))
    (text : List ℕ)
    → AnswersWithInput (IsBadInput task) (IsFindingText task found) input logs (Ok text)
    → AnswersWithInput (IsBadInput task) (IsTaskText task) input logs (Ok text)
AnswersWithInput-plain task found input logs text h = (h.0, (h.1.0, h.1.1, h.1.2.0))

module _ {S : Type 0} (D : SourceModel S) (task : Task) (found : Bool) (old new : List S) where
  pub EndsMaking-plain : (text : List ℕ)
      → EndsMaking D (AnswersFinding task found) old new (Ok text)
      → EndsMaking D (AnswersLogs task) old new (Ok text)
  EndsMaking-plain text h = (h.0, h.1, AnswersLogs-plain task found h.0 text h.2)

  pub EndsRun-plain : {T : Type 0} (W : SinkModel T) (was now : T)
      → EndsRun D W (AnswersFinding task found) old new was now (Ok tt)
      → EndsRun D W (AnswersLogs task) old new was now (Ok tt)
  EndsRun-plain W was now run = record {
    sink = WritesAnswer-weaker _ _ _ _ _ _ _ _ _ (sink_run W was now)
        (λ P Q f h logs are. f logs (h logs are))
        (AnswersLogs-plain task found)
        (λ h. record {
          logs = h.logs;
          delivered = h.delivered;
          text = h.text;
          answer = AnswersLogs-plain task found h.logs h.text h.answer;
          written = h.written;
        }) run.sink;
    sources = run.sources;
  }

  module _ {I : Type 0} (E : SourceModel I) (first last : I) where
    pub EndsMakingBoth-plain : (text : List ℕ)
        → EndsMakingBoth E D (AnswersWithInput (IsBadInput task) (IsFindingText task found)) first
        last old new (Ok text)
        → EndsMakingBoth E D (AnswersWithInput (IsBadInput task) (IsTaskText task)) first last old
        new (Ok text)
    EndsMakingBoth-plain text h =
        (h.0, h.1, h.2, AnswersWithInput-plain task found h.0 h.1 text h.3)

    pub EndsRunWithInput-plain : {T : Type 0} (W : SinkModel T) (was now : T)
        → EndsRunWithInput E D W (IsBadInput task) (IsFindingText task found) first last old new
        was now (Ok tt)
        → EndsRunWithInput E D W (IsBadInput task) (IsTaskText task) first last old new was now
        (Ok tt)
    EndsRunWithInput-plain W was now run = record {
      sink = WritesAnswer-weaker _ _ _ _ _ _ _ _ _ (sink_run W was now)
          (λ P Q f h input logs is are. f (input, logs) (h input logs is are))
          (λ given text. AnswersWithInput-plain task found given.0 given.1 text)
          (λ h. record {
            input = h.input;
            logs = h.logs;
            delivered = h.delivered;
            text = h.text;
            answer = AnswersWithInput-plain task found h.input h.logs h.text h.answer;
            written = h.written;
          }) run.sink;
      sources = run.sources;
      input = run.input;
    }

-- How a run ends: what it writes, and how it leaves its sources.
use Rattle.std.specs.Prelude.{◌≡◌, ◌≢◌, ◌↔◌, ℕ, Bool, true, List, length, Option, Some}
use Rattle.std.specs.Prelude.{Result, Ok, Err, OnOk, IfErr, IsErrOf, MatchResult}
use Rattle.std.specs.Io.KnownBytes.{Appends, Keeps}
use Rattle.epx_types.specs.declared.fault.Fault.{Fault}
use Rattle.epx_types.specs.declared.fault.Fault.TheVariants.{Write}
use Rattle.epx_types.specs.Instances.{Instance}
use Rattle.epx_devices.specs.Models.{SinkModel, SourceModel}
use Rattle.epx_devices.specs.Transfers.{AppendsPrefix}
use Rattle.epx_names.specs.Tasks.{HasInput}
use Rattle.epx_names.specs.declared.task.Task.{Task}
use Rattle.epx_tool.specs.Findings.{AnswersFinding, IsFindingText}
use Rattle.epx_tool.specs.TaskAnswers.{AnswersLogs, IsBadInput}
use Rattle.epx_tool.specs.TaskTexts.{IsTaskText}
use Rattle.epx_tool.specs.Delivered.{WritesDelivered, EndsRefused}
use Rattle.epx_tool.specs.DeliveredWithInput.{AnswersBoth, EndsWithoutBoth}
use Rattle.epx_merge.specs.ReadingRefusals.{AreBytesOf}
use Rattle.epx_tool.specs.Runs.{IsFaultOfRun}
use Rattle.epx_tool.specs.RunsWithInput.{IsRunFaultWithInput}
use Rattle.epx_merge.specs.SourceEndings.{LeavesSources}
use Rattle.epx_tool.specs.Sources.{LeavesInput}
use Rattle.epx_tool.specs.WithInput.{AnswersWithInput}

-- what is seen of a sink over a run: its bytes before and after, if they are known, whether it is
-- flushed afterwards, and whether a call of it has failed
pub record SinkRun : Type 0 where
  -- the bytes that it had accepted before and has accepted after, if they are known
  pub before : Option (List ℕ)
  pub after : Option (List ℕ)
  -- whether it buffers none of them afterwards
  pub is_flushed : Bool
  -- whether a call of it has returned an error by then
  pub has_failed : Bool

-- what a model sees of a sink that was in one state before a run and is in another after it
abbrev pub sink_run : {T : Type 0} → SinkModel T → T → T → SinkRun
sink_run W was now = record {
  before = W.contents was;
  after = W.contents now;
  is_flushed = W.is_flushed now;
  has_failed = W.has_failed now;
}

-- Success: an answer, by the known bytes (`OfKnown`) and by the delivered ones (`Delivered`), is
-- appended to the sink and flushed. A fault: one of `IsFault` and, but for `Write`, of `Ends`, and
-- nothing is appended; `Write` comes exactly if the sink failed, after a prefix of an answer
pub record WritesAnswer {Given : Type 0} (OfKnown : (Given → Type 0) → Type 0)
    (Answer : Given → List ℕ → Type 0) (IsFault : Given → Fault → Type 0)
    (Delivered : (List ℕ → Type 0) → Type 0) (Ends : Fault → Type 0) (sink : SinkRun)
    (result : Result (Unit {0}) Fault) : Type 0 where
  -- success: an answer was added to the sink, and all of it was flushed
  pub text : OnOk result (OfKnown (λ given. (text : List ℕ) × Answer given text
      × Appends sink.before sink.after text))
  pub answered : OnOk result (Delivered (Appends sink.before sink.after))
  pub flushed : OnOk result (sink.is_flushed ≡ true)
  -- a fault: it is one of such a run, and nothing was added unless it is of the sink
  pub refusal : IfErr result (λ fault. OfKnown (λ given. IsFault given fault))
  pub refused : IfErr result (λ fault. fault ≢ Write → Ends fault)
  pub nothing : IfErr result (λ fault. fault ≢ Write → Keeps sink.before sink.after)
  -- a fault of the sink, which comes exactly if it failed: a prefix of an answer was added
  pub prefix : IsErrOf result Write → OfKnown (λ given. (text : List ℕ) × Answer given text
      × AppendsPrefix sink.before sink.after text)
  pub part : IsErrOf result Write → Delivered (AppendsPrefix sink.before sink.after)
  pub written : IsErrOf result Write ↔ (sink.has_failed ≡ true)

-- a run over logs that writes this answer ends with this result: what it writes, and with which
-- faults it ends (`WritesAnswer`), and how it leaves the sources (`LeavesSources`)
pub record EndsRun {S T : Type 0} (D : SourceModel S) (W : SinkModel T)
    (Answer : List (List ℕ) → Result (List ℕ) Fault → Type 0) (old new : List S) (was now : T)
    (result : Result (Unit {0}) Fault) : Type 0 where
  pub sink : WritesAnswer
      (λ P. (logs : List (List ℕ)) → AreBytesOf D old logs → P logs)
      (λ logs text. Answer logs (Ok text)) (IsFaultOfRun Answer)
      (WritesDelivered D Answer old new)
      (EndsRefused D (λ logs fault. Answer logs (Err fault)) old new)
      (sink_run W was now) result
  pub sources : LeavesSources D old new result

-- a run over logs and an extra input that writes this answer ends with this result: what it writes
-- (`WritesAnswer`), and how it leaves the sources; `first` and `last` are that of the input, before
-- and after
pub record EndsRunWithInput {I S T : Type 0} (E : SourceModel I) (D : SourceModel S)
    (W : SinkModel T) (IsBad : List ℕ → ℕ → Type 0)
    (Is : List ℕ → List Instance → List ℕ → Type 0) (first last : I) (old new : List S)
    (was now : T) (result : Result (Unit {0}) Fault) : Type 0 where
  pub sink : WritesAnswer {Given = List ℕ × List (List ℕ)}
      (λ P. (input : List ℕ) (logs : List (List ℕ)) → E.remaining first ≡ Some input
      → AreBytesOf D old logs → P (input, logs))
      (λ given text. AnswersWithInput IsBad Is given.0 given.1 (Ok text))
      (λ given fault. IsRunFaultWithInput IsBad Is given.0 given.1 fault)
      (AnswersBoth E D IsBad Is first last old new)
      (EndsWithoutBoth E D IsBad first last old new)
      (sink_run W was now) result
  pub sources : LeavesSources D old new result
  pub input : LeavesInput E first last (length old) result

-- a run of a task ends with this result: with whether its answer finds something, or with a fault;
-- a task without an input leaves its source untouched
pub record EndsTaskRun {I S T : Type 0} (E : SourceModel I) (D : SourceModel S) (W : SinkModel T)
    (task : Task) (first last : I) (old new : List S) (was now : T)
    (done : Result Bool Fault) : Type 0 where
  pub with_input : HasInput task → MatchResult done
      (λ found. EndsRunWithInput E D W (IsBadInput task) (IsFindingText task found) first last
      old new was now (Ok tt))
      (λ fault. EndsRunWithInput E D W (IsBadInput task) (IsTaskText task) first last old new
      was now (Err fault))
  pub alone : ¬ HasInput task → MatchResult done
      (λ found. EndsRun D W (AnswersFinding task found) old new was now (Ok tt))
      (λ fault. EndsRun D W (AnswersLogs task) old new was now (Err fault))
  pub untouched : ¬ HasInput task → last ≡ first

-- The outcome of a task, by how the run of what it asks ended.
use Rattle.std.proofs.Common.{◌≡◌, ◌≢◌, ◌⊎◌, ◌↔◌, ℕ, suc, Bool, true, List, [], ◌∷◌, drop, length}
use Rattle.std.proofs.Common.{map, Option, Some, Result, Ok, Err, IsErrOf, inl, inr, refl, sym, ap}
use Rattle.std.proofs.Common.{◌∙◌, subst, IfOk}
use Rattle.epx_types.proofs.Common.{Keeps, IfErr, MatchResult, OnOk}
use Rattle.epx_types.specs.declared.fault.Fault.{Fault}
use Rattle.epx_types.specs.declared.fault.Fault.TheVariants.{Read, Write}
use Rattle.epx_names.specs.declared.task.Task.{Task}
use Rattle.epx_devices.specs.Models.{SinkModel, SourceModel}
use Rattle.epx_merge.specs.DeliveredLogs.{EachDelivers}
use Rattle.epx_tool.specs.DeliveredWithInput.{DeliversBoth}
use Rattle.epx_names.specs.Tasks.{HasInput}
use Rattle.epx_names.specs.declared.task.Task.TheVariants.{Resume, Check, CheckPrefix}
use Rattle.epx_names.specs.declared.task.Task.TheVariants.{Replay, Verify, Linear}
use Rattle.epx_tool.specs.Findings.{AnswersFinding, IsFindingText}
use Rattle.epx_tool.specs.TaskAnswers.{AnswersLogs, IsBadInput}
use Rattle.epx_tool.specs.TaskTexts.{IsTaskText}
use Rattle.epx_tool.specs.RunEndings.{SinkRun, WritesAnswer, EndsRun, EndsRunWithInput}
use Rattle.epx_merge.specs.ReadingRefusals.{AreBytesOf}
use Rattle.epx_tool.specs.RunsWithInput.{IsRunFaultWithInput}
use Rattle.epx_tool.specs.WithInput.{AnswersWithInput}
use Rattle.epx_merge.proofs.ReturnedFaultLemmas.{IsErrOf-not_ok}
use Rattle.epx_program.specs.Endings.{AddsAnswer, AddsPart, IsTaskAnswer, IsTaskFault}
use Rattle.epx_program.specs.Endings.{IsTaskFinding, IsTaskResult, first_of, over_texts}
use Rattle.epx_program.specs.Inputs.{HasFailedRead, OneHasFailedRead}
use Rattle.epx_program.specs.inner.Outcomes.{TaskOutcome}
use Rattle.epx_program.proofs.FailedInputLemmas.{OneHasFailedRead-unread, HasFailedRead-unread}

-- ---- texts and sources

-- the texts of a first source and others begin with the text of the first
from_first : {S : Type 0} (D : SourceModel S) (P : List (List ℕ) → Type 0)
    (sources rest : List S) (source : S) → sources ≡ source ∷ rest
    → ((text : List ℕ) (logs : List (List ℕ)) → D.remaining source ≡ Some text
    → AreBytesOf D rest logs → P (text ∷ logs))
    → (texts : List (List ℕ)) → AreBytesOf D sources texts → P texts
from_first D P sources rest source e holds [] are =
    let none : map D.remaining (source ∷ rest) ≡ [] = ap (map D.remaining) (sym e) ∙ are in
    absurd (cc none)
from_first D P sources rest source e holds (text ∷ logs) are =
    let both : map D.remaining (source ∷ rest) ≡ Some text ∷ map Some logs =
    ap (map D.remaining) (sym e) ∙ are in
    holds text logs (cc both) (cc both)

-- no sources have no texts
from_nothing : {S : Type 0} (D : SourceModel S) (P : List (List ℕ) → Type 0)
    (sources : List S) → length sources ≡ 0 → P []
    → (texts : List (List ℕ)) → AreBytesOf D sources texts → P texts
from_nothing D P [] none holds [] are = holds
from_nothing D P [] none holds (text ∷ logs) are = absurd (cc are)
from_nothing D P (source ∷ sources) none holds texts are = absurd (cc none)

-- a source that failed is the first one or one of the others
failed_of_all : {S : Type 0} (D : SourceModel S) (sources rest : List S) (source : S)
    → sources ≡ source ∷ rest → HasFailedRead D source ⊎ OneHasFailedRead D rest
    → OneHasFailedRead D sources
failed_of_all D sources rest source e h =
    let all = subst (OneHasFailedRead D) (sym e) in
    elim h [
      | inl first ↦ all (record { log = 0; source = source; there = refl; failed = first })
      | inr one ↦ all (record {
        log = suc one.log;
        source = one.source;
        there = one.there;
        failed = one.failed;
      })
    ]

-- what is said of an input and logs, or of logs alone
module _ (Both : List ℕ → List (List ℕ) → Type 0) (Logs : List (List ℕ) → Type 0)
    (texts : List (List ℕ)) where
  over_both : (task : Task) → HasInput task → Both (first_of texts) (drop 1 texts)
      → over_texts task Both Logs texts
  over_both Resume has h = h
  over_both Check has h = h
  over_both CheckPrefix has h = h
  over_both Replay has h = h
  over_both Verify has h = h
  over_both (Linear skew) has h = h
  over_both task has h = absurd has

  over_logs : (task : Task) → ¬ HasInput task → Logs texts → over_texts task Both Logs texts
  over_logs Resume alone h = absurd (alone tt)
  over_logs Check alone h = absurd (alone tt)
  over_logs CheckPrefix alone h = absurd (alone tt)
  over_logs Replay alone h = absurd (alone tt)
  over_logs Verify alone h = absurd (alone tt)
  over_logs (Linear skew) alone h = absurd (alone tt)
  over_logs task alone h = h

-- ---- runs over known texts

-- the result of a run that ended with this fault
abbrev ended : Fault → Result (Unit {0}) Fault
ended fault = Err fault

-- an error of one result is the same error of another
same_error : {A B : Type 0} (fault other : Fault) → IsErrOf {T = A} (Err fault) other
    → IsErrOf {T = B} (Err fault) other
same_error fault other is = let named : fault ≡ other = cc is in ap Err named

-- what a task over known texts comes to, by the run over them that wrote its answer
task_answered : {Given : Type 0} {OfKnown : (Given → Type 0) → Type 0}
    {Answer : Given → List ℕ → Type 0} {IsFault : Given → Fault → Type 0}
    {Delivered : (List ℕ → Type 0) → Type 0} {Ends : Fault → Type 0} {sink : SinkRun}
    (found : Bool)
    → WritesAnswer OfKnown Answer IsFault Delivered Ends sink (Ok tt)
    → (task : Task) (texts : List (List ℕ)) (given : Given)
    → ((P : Given → Type 0) → OfKnown P → P given)
    → ((text : List ℕ) → Answer given text → IsTaskFinding task found texts text)
    → IsTaskResult task texts (Ok found) sink.before sink.after
task_answered found run task texts given known answers =
    let w = known _ run.text in (w.0, answers w.0 w.1, w.2)

-- what a task over known texts comes to, by the run over them that ended with a fault
task_refused : {Given : Type 0} {OfKnown : (Given → Type 0) → Type 0}
    {Answer : Given → List ℕ → Type 0} {IsFault : Given → Fault → Type 0}
    {Delivered : (List ℕ → Type 0) → Type 0} {Ends : Fault → Type 0} {sink : SinkRun}
    (fault : Fault)
    → WritesAnswer OfKnown Answer IsFault Delivered Ends sink (Err fault)
    → (task : Task) (texts : List (List ℕ)) (given : Given)
    → ((P : Given → Type 0) → OfKnown P → P given)
    → ((text : List ℕ) → Answer given text → IsTaskAnswer task texts (Ok text))
    → (IsFault given fault → IsTaskFault task texts fault)
    → IsTaskResult task texts (Err fault) sink.before sink.after
task_refused fault run task texts given known answers faults = record {
  named = faults (known _ run.refusal);
  part = λ is. let w = known _ (run.prefix (ap Err is)) in (w.0, answers w.0 w.1, w.2);
  nothing = run.nothing;
}

-- a task that comes to this over no texts, which were read
adds_to_nothing : (AreRead : List (List ℕ) → Type 0) (old new : Option (List ℕ)) (task : Task)
    (done : Result Bool Fault) → AreRead [] → IsTaskResult task [] done old new
    → IfOk done (λ found. AddsAnswer task found AreRead old new)
adds_to_nothing AreRead old new task (Ok found) none h = ([], none, h)
adds_to_nothing AreRead old new task (Err fault) none h = tt

adds_part_to_nothing : (AreRead : List (List ℕ) → Type 0) (old new : Option (List ℕ)) (task : Task)
    (done : Result Bool Fault) → AreRead [] → IsTaskResult task [] done old new
    → IsErrOf done Write → AddsPart task AreRead old new
adds_part_to_nothing AreRead old new task (Ok found) none h is = absurd (cc is)
adds_part_to_nothing AreRead old new task (Err fault) none h is =
    let named : fault ≡ Write = cc is in ([], none, h.part named)

-- ---- the outcome

written_well : {A B : Type 0} (x : A) (y : B) (failed : Bool)
    → IsErrOf (Ok x) Write ↔ (failed ≡ true) → IsErrOf (Ok y) Write ↔ (failed ≡ true)
written_well x y failed h =
    (λ is. absurd (IsErrOf-not_ok y Write is), λ bad. absurd (IsErrOf-not_ok x Write (h.1 bad)))

written_badly : {A B : Type 0} (fault : Fault) (failed : Bool)
    → IsErrOf {T = A} (Err fault) Write ↔ (failed ≡ true)
    → IsErrOf {T = B} (Err fault) Write ↔ (failed ≡ true)
written_badly fault failed h =
    (λ is. h.0 (same_error fault Write is), λ bad. same_error fault Write (h.1 bad))

module _ {S T : Type 0} (D : SourceModel S) (W : SinkModel T) (task : Task)
    (before after : List S) (old new : T) where
  abbrev Outcome : Result Bool Fault → Type 0
  Outcome done = TaskOutcome D W task before after done old new

  -- what the task comes to over these texts
  abbrev ComesTo : List (List ℕ) → Result Bool Fault → Type 0
  ComesTo texts done = IsTaskResult task texts done (W.contents old) (W.contents new)

  module _ (alone : ¬ HasInput task) where
    -- the answer to logs is that of the task, with what it finds
    text_of_logs : (found : Bool) (texts : List (List ℕ)) (text : List ℕ)
        → AnswersFinding task found texts (Ok text) → IsTaskFinding task found texts text
    text_of_logs found texts text = over_logs _ _ texts task alone

    answer_of_logs : (texts : List (List ℕ)) (text : List ℕ) → AnswersLogs task texts (Ok text)
        → IsTaskAnswer task texts (Ok text)
    answer_of_logs texts text = over_logs _ _ texts task alone

    logs_answered : (found : Bool)
        → EndsRun D W (AnswersFinding task found) before after old new (Ok tt)
        → Outcome (Ok found)
    logs_answered found run = record {
      known = λ texts are. task_answered found run.sink task texts texts (λ P h. h texts are)
          (text_of_logs found texts);
      answered = let h = run.sink.answered in (
        h.logs,
        h.delivered,
        (h.text, text_of_logs found h.logs h.text h.answer, h.written),
      );
      flushed = run.sink.flushed;
      part = λ bad. absurd (IsErrOf-not_ok found Write bad);
      nothing = tt;
      unread = λ log bad. absurd (IsErrOf-not_ok found (Read log) bad);
      written = written_well tt found _ run.sink.written;
    }

    logs_refused : (fault : Fault)
        → EndsRun D W (AnswersLogs task) before after old new (Err fault)
        → Outcome (Err fault)
    logs_refused fault run = record {
      known = λ texts are. task_refused fault run.sink task texts texts (λ P h. h texts are)
          (answer_of_logs texts) (over_logs _ _ texts task alone);
      answered = tt;
      flushed = tt;
      part = λ bad. let h = run.sink.part (same_error fault Write bad) in (
        h.logs,
        h.delivered,
        (h.text, answer_of_logs h.logs h.text h.answer, h.written),
      );
      nothing = run.sink.nothing;
      unread = λ log bad. OneHasFailedRead-unread D before after task (ended fault)
          run.sink.refused log (same_error fault (Read log) bad);
      written = written_badly fault _ run.sink.written;
    }

    pub Outcome-logs : (done : Result Bool Fault)
        → MatchResult done
        (λ found. EndsRun D W (AnswersFinding task found) before after old new (Ok tt))
        (λ fault. EndsRun D W (AnswersLogs task) before after old new (Err fault))
        → Outcome done
    Outcome-logs (Ok found) run = logs_answered found run
    Outcome-logs (Err fault) run = logs_refused fault run

  module _ (has : HasInput task) where
    -- the answer to the first of these texts, which is the input, and to the logs after it
    module _ (texts : List (List ℕ)) where
      abbrev input : List ℕ
      input = first_of texts

      abbrev logs : List (List ℕ)
      logs = drop 1 texts

      answers_first : (text : List ℕ)
          → AnswersWithInput (IsBadInput task) (IsTaskText task) input logs (Ok text)
          → IsTaskAnswer task texts (Ok text)
      answers_first text = over_both _ _ texts task has

      text_of_first : (found : Bool) (text : List ℕ)
          → AnswersWithInput (IsBadInput task) (IsFindingText task found) input logs (Ok text)
          → IsTaskFinding task found texts text
      text_of_first found text = over_both _ _ texts task has

      faults_first : (fault : Fault)
          → IsRunFaultWithInput (IsBadInput task) (IsTaskText task) input logs fault
          → IsTaskFault task texts fault
      faults_first fault = over_both _ _ texts task has

    -- the run over a first text and logs ends this way
    abbrev EndsFirst : {I : Type 0} → SourceModel I → I → I → List I → List I
        → Result Bool Fault → Type 0
    EndsFirst E first last logs after done = MatchResult done
        (λ found. EndsRunWithInput E E W (IsBadInput task) (IsFindingText task found) first
        last logs after old new (Ok tt))
        (λ fault. EndsRunWithInput E E W (IsBadInput task) (IsTaskText task) first last
        logs after old new (Err fault))

    -- the first source has the first text
    module _ (first last : S) (logs left : List S) (all : before ≡ first ∷ logs)
        (now : after ≡ last ∷ left) where
      both_deliver : (text : List ℕ) (texts : List (List ℕ))
          → DeliversBoth D D first last logs left text texts
          → EachDelivers D before after (text ∷ texts)
      both_deliver text texts h = rw (all, now) record {
        as_many = ap suc h.of_logs.as_many;
        whole = (h.of_input, h.of_logs.whole);
      }

      pub Outcome-first : (done : Result Bool Fault)
          → EndsFirst D first last logs left done → Outcome done
      Outcome-first (Ok found) run = record {
        known = from_first D (λ texts. ComesTo texts (Ok found)) before logs first all
            (λ text texts known are. task_answered found run.sink task (text ∷ texts) (text, texts)
            (λ P h. h text texts known are)
            (text_of_first (text ∷ texts) found));
        answered = let h = run.sink.answered in (
          h.input ∷ h.logs,
          both_deliver h.input h.logs h.delivered,
          (
            h.text,
            text_of_first (h.input ∷ h.logs) found h.text h.answer,
            h.written,
          ),
        );
        flushed = run.sink.flushed;
        part = λ bad. absurd (IsErrOf-not_ok found Write bad);
        nothing = tt;
        unread = λ log bad. absurd (IsErrOf-not_ok found (Read log) bad);
        written = written_well tt found _ run.sink.written;
      }
      Outcome-first (Err fault) run = record {
        known = from_first D (λ texts. ComesTo texts (Err fault)) before logs first all
            (λ text texts known are. task_refused fault run.sink task (text ∷ texts) (text, texts)
            (λ P h. h text texts known are)
            (answers_first (text ∷ texts)) (faults_first (text ∷ texts) fault));
        answered = tt;
        flushed = tt;
        part = λ bad. let h = run.sink.part (same_error fault Write bad) in (
          h.input ∷ h.logs,
          both_deliver h.input h.logs h.delivered,
          (
            h.text,
            answers_first (h.input ∷ h.logs) h.text h.answer,
            h.written,
          ),
        );
        nothing = run.sink.nothing;
        unread = λ log bad. failed_of_all D before logs first all
            (HasFailedRead-unread D logs left D (IsBadInput task) first last
            (ended fault) run.sink.refused log (same_error fault (Read log) bad));
        written = written_badly fault _ run.sink.written;
      }

    -- if there is no source, the first text is empty; its source cannot fail
    module _ {M : Type 0} (E : SourceModel M) (first last : M) (now : List M)
        (none : length before ≡ 0) (empty : E.remaining first ≡ Some [])
        (never : ¬ HasFailedRead E first) where
      none_deliver : EachDelivers D before after []
      none_deliver = record { as_many = sym none; whole = tt }

      comes_to : (done : Result Bool Fault)
          → EndsFirst E first last [] now done → ComesTo [] done
      comes_to (Ok found) run =
          task_answered found run.sink task [] ([], []) (λ P h. h [] [] empty refl)
          (text_of_first [] found)
      comes_to (Err fault) run =
          task_refused fault run.sink task [] ([], []) (λ P h. h [] [] empty refl)
          (answers_first []) (faults_first [] fault)

      nothing_unread : (done : Result Bool Fault) (log : ℕ)
          → EndsFirst E first last [] now done → ¬ IsErrOf done (Read log)
      nothing_unread (Ok found) log run bad = IsErrOf-not_ok found (Read log) bad
      nothing_unread (Err fault) log run bad = elim (HasFailedRead-unread E [] now E
          (IsBadInput task) first last (ended fault) run.sink.refused log
          (same_error fault (Read log) bad)) [
            | inl bad ↦ never bad
            | inr one ↦ cc one.there
          ]

      pub Outcome-nothing : (done : Result Bool Fault)
          → EndsFirst E first last [] now done → Outcome done
      Outcome-nothing done run =
          let comes = comes_to done run in record {
            known = from_nothing D (λ texts. ComesTo texts done) before none comes;
            answered = adds_to_nothing (EachDelivers D before after) _ _ task done none_deliver
                comes;
            flushed = flushes done run;
            part = adds_part_to_nothing (EachDelivers D before after) _ _ task done none_deliver
                comes;
            nothing = keeps done run;
            unread = λ log bad. absurd (nothing_unread done log run bad);
            written = writes done run;
          }
        where
          flushes : (done : Result Bool Fault)
              → EndsFirst E first last [] now done → OnOk done (W.is_flushed new ≡ true)
          flushes (Ok found) run = run.sink.flushed
          flushes (Err fault) run = tt

          keeps : (done : Result Bool Fault)
              → EndsFirst E first last [] now done
              → IfErr done (λ fault. fault ≢ Write → Keeps (W.contents old) (W.contents new))
          keeps (Ok found) run = tt
          keeps (Err fault) run = run.sink.nothing

          writes : (done : Result Bool Fault)
              → EndsFirst E first last [] now done → IsErrOf done Write ↔ (W.has_failed new ≡ true)
          writes (Ok found) run = written_well tt found _ run.sink.written
          writes (Err fault) run = written_badly fault _ run.sink.written

-- How a run of a task ends, by how answering it ended and by what was written.
use Rattle.std.proofs.Common.{◌≡◌, ◌↔◌, ◌+◌, ℕ, true, false, List, length, Result, Ok, Err, inl}
use Rattle.std.proofs.Common.{inr, sym, subst, arith}
use Rattle.epx_types.proofs.Common.{Appends, OnOk, IfErr, IsErr, Instance}
use Rattle.epx_types.specs.declared.fault.Fault.{Fault}
use Rattle.epx_types.specs.declared.fault.Fault.TheVariants.{Write}
use Rattle.epx_devices.specs.Models.{SinkModel, SourceModel}
use Rattle.epx_devices.specs.Transfers.{AppendsPrefix}
use Rattle.epx_names.specs.declared.task.Task.{Task}
use Rattle.epx_tool.specs.declared.findings.Answer.{Answer}
use Rattle.epx_tool.specs.Findings.{AnswersFinding, IsFindingText}
use Rattle.epx_tool.specs.RunEndings.{EndsRunWithInput, EndsTaskRun}
use Rattle.epx_tool.specs.RunsWithInput.{IsRunFaultWithInput}
use Rattle.epx_tool.specs.TaskAnswers.{AnswersLogs, IsBadInput}
use Rattle.epx_tool.specs.TaskTexts.{IsTaskText}
use Rattle.epx_tool.specs.WithInput.{AnswersWithInput}
use Rattle.epx_merge.specs.between.SourceReadings.{EndsMaking}
use Rattle.epx_tool.specs.inner.TaskReadings.{EndsAnswering, EndsMakingBoth}
use Rattle.epx_tool.proofs.LogsWithInputLemmas.{IsRunFaultWithInput-reading}
use Rattle.epx_tool.proofs.MergedSourceLemmas.{EndsRun-refused, EndsRun-written}
use Rattle.epx_tool.proofs.PlainRunLemmas.{EndsMaking-plain, EndsMakingBoth-plain}
use Rattle.epx_tool.proofs.ReturnedFaultLemmas.{IsErrOf-again, IsLogAnswer-task, HasRead-written}
use Rattle.epx_tool.proofs.ReturnedFaultLemmas.{HasRead-refused_with_input}
use Rattle.epx_tool.proofs.ReturnedFaultLemmas.{IsErrOf-refusal_not_write}
use Rattle.epx_tool.proofs.ReturnedFaultLemmas.{IsRunFaultWithInput-refusal}
use Rattle.epx_tool.proofs.RunEndingLemmas.{LeavesSources-again, LeavesSources-after}
use Rattle.epx_tool.proofs.RunEndingLemmas.{LeavesInput-again, LeavesInput-after}
use Rattle.epx_tool.proofs.RunEndingLemmas.{WritesAnswer-nothing, WritesAnswer-text}

module _ {I S T : Type 0} (E : SourceModel I) (D : SourceModel S) (W : SinkModel T)
    (first last : I) (old new : List S) (was : T) where
  module _ (IsBad : List ℕ → ℕ → Type 0) (Is : List ℕ → List Instance → List ℕ → Type 0) where
    -- the sources could not be read, or what they delivered is refused
    both_refused : (fault : Fault) → W.has_failed was ≡ false
        → EndsMakingBoth E D (AnswersWithInput IsBad Is) first last old new (Err fault)
        → EndsRunWithInput E D W IsBad Is first last old new was was (Err fault)
    both_refused fault well (inl read) = record {
      sink = WritesAnswer-nothing _ _ _ _ _ W was fault well
          (λ is. read.nothing_written (IsErrOf-again fault Write is))
          (λ given logs known are. IsRunFaultWithInput-reading logs given IsBad Is fault
          (read.refusal given logs known are))
          (inl read.stopped);
      sources = LeavesSources-again _ _ _ fault read.sources;
      input = LeavesInput-again _ _ _ _ fault read.input;
    }
    both_refused fault well (inr (input, logs, read, refused)) =
        let n = length old + 1 in
        let has = HasRead-refused_with_input n logs fault read.fit IsBad input read.short refused
        in record {
          sink = WritesAnswer-nothing _ _ _ _ _ W was fault well
              (IsErrOf-refusal_not_write IsBad input logs fault refused)
              (λ given others known are.
              subst (λ ls. IsRunFaultWithInput IsBad Is given ls fault) (read.bytes others are)
              (subst (λ bytes. IsRunFaultWithInput IsBad Is bytes logs fault)
              (read.text given known)
              (IsRunFaultWithInput-refusal IsBad Is input logs fault refused)))
              (inr (record {
                input = input;
                logs = logs;
                delivered = read.delivered;
                refusal = refused;
              }));
          sources = LeavesSources-after _ _ _ n _ _ (omega arith) has read.sources;
          input = LeavesInput-after _ _ _ _ n _ _ (omega arith) has read.input;
        }

    -- the text was written, whole or in part
    both_written : (now : T) (text : List ℕ) (done : Result (Unit {0}) Fault)
        → EndsMakingBoth E D (AnswersWithInput IsBad Is) first last old new (Ok text)
        → OnOk done (Appends (W.contents was) (W.contents now) text)
        → OnOk done (W.is_flushed now ≡ true)
        → IfErr done (λ fault. fault ≡ Write) → IsErr done ↔ (W.has_failed now ≡ true)
        → AppendsPrefix (W.contents was) (W.contents now) text
        → EndsRunWithInput E D W IsBad Is first last old new was now done
    both_written now text done (input, logs, read, answer) bytes flushed faults failed prefix =
        let n = length old + 1 in
        let has = HasRead-written n done faults in record {
          sink = WritesAnswer-text _ _ _ _ _ W was now text done
              (λ P known given others is are. known (given, others)
              (subst (λ ls. AnswersWithInput IsBad Is given ls (Ok text)) (read.bytes others are)
              (subst (λ bytes. AnswersWithInput IsBad Is bytes logs (Ok text))
              (read.text given is) answer)))
              (λ Written written. record {
                input = input;
                logs = logs;
                delivered = read.delivered;
                text = text;
                answer = answer;
                written = written;
              }) (λ given answered. (text, answered)) bytes flushed faults failed prefix;
          sources = LeavesSources-after _ _ _ n _ _ (omega arith) has read.sources;
          input = LeavesInput-after _ _ _ _ n _ _ (omega arith) has read.input;
        }

  module _ (task : Task) where
    pub EndsTaskRun-refused : (fault : Fault) → W.has_failed was ≡ false
        → EndsAnswering E D task first last old new (Err fault)
        → EndsTaskRun E D W task first last old new was was (Err fault)
    EndsTaskRun-refused fault well h = record {
      with_input = λ has. both_refused (IsBadInput task) (IsTaskText task) fault well
          (h.with_input has);
      alone = λ no. EndsRun-refused D W (AnswersLogs task) old new was fault (IsLogAnswer-task task)
          well
          (h.alone no);
      untouched = h.untouched;
    }

    -- the answer was found, and its text was written
    module _ (answer : Answer) (now : T) (text : List ℕ) (is : text ≡ answer.text.items)
        (h : EndsAnswering E D task first last old new (Ok answer))
        (prefix : AppendsPrefix (W.contents was) (W.contents now) text) where
      pub EndsTaskRun-written : Appends (W.contents was) (W.contents now) text
          → W.is_flushed now ≡ true → IsErr {T = Unit {0}} {E = Fault} (Ok tt)
          ↔ (W.has_failed now ≡ true)
          → EndsTaskRun E D W task first last old new was now (Ok answer.has_findings)
      EndsTaskRun-written bytes flushed failed = record {
        with_input = λ has. both_written (IsBadInput task)
            (IsFindingText task answer.has_findings) now text (Ok tt)
            (subst (λ (t : List ℕ). EndsMakingBoth E D (AnswersWithInput (IsBadInput task)
            (IsFindingText task answer.has_findings)) first last old new (Ok t)) (sym is)
            (h.with_input has)) bytes flushed tt failed prefix;
        alone = λ no. EndsRun-written D W (AnswersFinding task answer.has_findings) old new was now
            text (Ok tt)
            (subst (λ (t : List ℕ). EndsMaking D (AnswersFinding task answer.has_findings) old new
            (Ok t)) (sym is) (h.alone no)) bytes flushed tt failed prefix;
        untouched = h.untouched;
      }

      pub EndsTaskRun-unwritten : (fault : Fault) → fault ≡ Write
          → IsErr {T = Unit {0}} (Err fault) ↔ (W.has_failed now ≡ true)
          → EndsTaskRun E D W task first last old new was now (Err fault)
      EndsTaskRun-unwritten fault only failed = record {
        with_input = λ has. both_written (IsBadInput task) (IsTaskText task) now text (Err fault)
            (subst (λ (t : List ℕ). EndsMakingBoth E D (AnswersWithInput (IsBadInput task)
            (IsTaskText task)) first last old new (Ok t)) (sym is)
            (EndsMakingBoth-plain D task answer.has_findings old new E first last answer.text.items
            (h.with_input has))) tt tt only failed prefix;
        alone = λ no. EndsRun-written D W (AnswersLogs task) old new was now text (Err fault)
            (subst (λ (t : List ℕ). EndsMaking D (AnswersLogs task) old new (Ok t)) (sym is)
            (EndsMaking-plain D task answer.has_findings old new answer.text.items (h.alone no)))
            tt tt only failed prefix;
        untouched = h.untouched;
      }

-- How a run ends, by how reading its sources and merging their logs ended.
use Rattle.std.proofs.Common.{◌≡◌, ◌↔◌, ℕ, true, false, List, length, Result, Ok, Err, inl, inr}
use Rattle.std.proofs.Common.{subst, arith}
use Rattle.epx_types.proofs.Common.{Appends, OnOk, IfErr, IsErr}
use Rattle.epx_types.specs.declared.fault.Fault.{Fault}
use Rattle.epx_types.specs.declared.fault.Fault.TheVariants.{Write}
use Rattle.epx_devices.specs.Models.{SinkModel, SourceModel}
use Rattle.epx_devices.specs.Transfers.{AppendsPrefix}
use Rattle.epx_tool.specs.Runs.{IsFaultOfRun}
use Rattle.epx_tool.specs.RunEndings.{EndsRun}
use Rattle.epx_merge.specs.between.SourceReadings.{EndsMaking}
use Rattle.epx_tool.proofs.ReturnedFaultLemmas.{IsLogAnswer, IsErrOf-again, HasRead-of_lines}
use Rattle.epx_tool.proofs.ReturnedFaultLemmas.{HasRead-written, IsErrOf-lines_not_write}
use Rattle.epx_tool.proofs.ReturnedFaultLemmas.{IsFaultOfRun-of_lines}
use Rattle.epx_tool.proofs.RunEndingLemmas.{LeavesSources-again, LeavesSources-after}
use Rattle.epx_tool.proofs.RunEndingLemmas.{WritesAnswer-nothing, WritesAnswer-text}

module _ {S T : Type 0} (D : SourceModel S) (W : SinkModel T)
    (Answer : List (List ℕ) → Result (List ℕ) Fault → Type 0) (old new : List S) (was : T) where
  -- the sources could not be read, or their logs are refused
  pub EndsRun-refused : (fault : Fault) → IsLogAnswer Answer → W.has_failed was ≡ false
      → EndsMaking D Answer old new (Err fault) → EndsRun D W Answer old new was was (Err fault)
  EndsRun-refused fault own well (inl read) = record {
    sink = WritesAnswer-nothing _ _ _ _ _ W was fault well
        (λ is. read.nothing_written (IsErrOf-again fault Write is))
        (λ logs are. own.of_reading logs fault (read.refusal logs are))
        (inl read.stopped);
    sources = LeavesSources-again D old new fault read.sources;
  }
  EndsRun-refused fault own well (inr (logs, read, refused)) =
      let of_lines = own.of_lines logs fault read.fit refused in
      let has = HasRead-of_lines {T = Unit {0}} (length old) fault of_lines in record {
        sink = WritesAnswer-nothing _ _ _ _ _ W was fault well
            (IsErrOf-lines_not_write (length old) fault of_lines)
            (λ given are. subst (λ ls. IsFaultOfRun Answer ls fault) (read.bytes given are)
            (IsFaultOfRun-of_lines Answer logs fault of_lines refused))
            (inr (record { logs = logs; delivered = read.delivered; refusal = refused }));
        sources = LeavesSources-after D old new (length old) logs (Err fault) (omega arith) has
            read.sources;
      }

  -- the text was written, whole or in part
  pub EndsRun-written : (now : T) (text : List ℕ) (done : Result (Unit {0}) Fault)
      → EndsMaking D Answer old new (Ok text)
      → OnOk done (Appends (W.contents was) (W.contents now) text)
      → OnOk done (W.is_flushed now ≡ true)
      → IfErr done (λ fault. fault ≡ Write) → IsErr done ↔ (W.has_failed now ≡ true)
      → AppendsPrefix (W.contents was) (W.contents now) text
      → EndsRun D W Answer old new was now done
  EndsRun-written now text done (logs, read, answer) bytes flushed faults failed prefix = record {
    sink = WritesAnswer-text _ _ _ _ _ W was now text done
        (λ P known given are. known given
        (subst (λ (ls : List (List ℕ)). Answer ls (Ok text)) (read.bytes given are) answer))
        (λ Written written. record {
          logs = logs;
          delivered = read.delivered;
          text = text;
          answer = answer;
          written = written;
        }) (λ given answered. (text, answered)) bytes flushed faults failed prefix;
    sources = LeavesSources-after D old new (length old) logs done (omega arith)
        (HasRead-written (length old) done faults) read.sources;
  }

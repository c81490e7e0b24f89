use Rattle.std.proofs.Common.{◌≡◌, ◌+◌, ℕ, List, Option, length, inl, inr, refl, ap, sym, ◌∙◌}
use Rattle.std.proofs.Common.{subst, arith, IfSome}
use Rattle.epx_types.proofs.Common.{max_log_bytes}
use Rattle.epx_types.specs.declared.fault.Fault.TheVariants.{TooManyLogs, Read, Write}
use Rattle.epx_devices.specs.Deliveries.{IsLogStop}
use Rattle.epx_devices.specs.Transfers.{ConsumesExactly}
use Rattle.epx_merge.specs.Refusals.{FitLimits}
use Rattle.epx_merge.proofs.ConsumedLemmas.{ConsumesUpTo-refl}
use Rattle.epx_tool.specs.inner.MapQuestions.{IsTaskReading}
use Rattle.epx_tool.proofs.LogsWithInputLemmas.{IsReadingRefusalWithInput-of_logs}
use Rattle.epx_tool.proofs.LogsWithInputLemmas.{IsReadingRefusalWithInput-at_input}
use Rattle.epx_tool.proofs.QuestionLemmas.{EndsMakingBoth-made}
use Rattle.epx_tool.proofs.ReturnedFaultLemmas.{IsErrOf-again, IsErrOf-ok_iff, IsErrOf-read_iff}
use Rattle.epx_tool.proofs.ReturnedFaultLemmas.{HasRead-input, HasRead-written}
use Rattle.epx_merge.proofs.ReturnedFaultLemmas.{iff-not_failed, IsErrOf-not_ok, StopsAt-not_ok}
use Rattle.epx_merge.proofs.ReturnedFaultLemmas.{IsErrOf-input_not_write}
use Rattle.epx_merge.proofs.ReturnedFaultLemmas.{IsErrOf-input_not_too_many}
use Rattle.epx_merge.proofs.ReturnedFaultLemmas.{StopsAt-input}
use Rattle.epx_tool.proofs.RunEndingLemmas.{LeavesSources-again, LeavesSources-after}
use Rattle.epx_tool.proofs.read_both.read_both.Goals as goal

pub returns-in-Err : goal.returns-in-Err
returns-in-Err g c =
    let fault = c.in-Err.fault in
    let read = c.in-Err.ensures.noted in
    let count = length c.args.sources.now in inl (record {
      text = tt;
      bytes = tt;
      short = tt;
      fit = tt;
      delivered = tt;
      refusal = λ before logs known are.
          IsReadingRefusalWithInput-of_logs logs before fault (read.refusal logs are);
      stopped = inl read.stopped;
      nothing_written = λ is. read.nothing_written (IsErrOf-again fault Write is);
      sources =
          LeavesSources-again g.S.Source.model c.args.sources.now c.note_sources.new.sources fault
          read.sources;
      input = record {
        read = iff-not_failed _ _ (λ is.
            let below = read.place count (inr (IsErrOf-again fault (Read count) is)) in
            omega (arith, below)) c.requires.input;
        taken = ConsumesUpTo-refl (max_log_bytes + 1) (g.I.Source.model.remaining c.args.input.now);
        ended = tt;
        untouched = λ log stops lower. refl {a = c.args.input.now};
        none_read = λ is. refl {a = c.args.input.now};
      };
    })

pub returns-in-Err-read_log : goal.returns-in-Err-read_log
returns-in-Err-read_log g c =
    let given = c.in-Ok.ensures.noted.0 in
    let read = c.in-Ok.ensures.noted.1 in
    let fault = c.in-Err-read_log.fault in
    let of_input = c.in-Err-read_log.ensures in
    let old = c.args.sources.now in
    let count = length c.note_sources.new.sources in
    let many = c.note_sources.auto.sources in
    let StopsAt : ℕ → Type 0 = λ n.
    IsLogStop g.I.Source.model n c.args.input.now c.read_log.new.source fault in
    inl (record {
      text = tt;
      bytes = tt;
      short = tt;
      fit = tt;
      delivered = tt;
      refusal = λ before logs known are.
          let same = read.bytes logs are in
          let logs_many : count ≡ length logs =
          many ∙ sym read.delivered.as_many ∙ ap length same in
          IsReadingRefusalWithInput-at_input logs before count
          (g.I.Source.model.remaining c.read_log.new.source) fault logs_many
          (subst FitLimits same read.fit) of_input.faults
          (λ is. subst (λ (o : Option (List ℕ)). ConsumesExactly o
          (g.I.Source.model.remaining c.read_log.new.source) (max_log_bytes + 1)) known
          (of_input.too_long is));
      stopped = inr (record {
        logs = given;
        delivered = read.delivered;
        short = read.fit.1;
        stopped = subst StopsAt many of_input.stops;
      });
      nothing_written = IsErrOf-input_not_write count fault of_input.faults;
      sources = LeavesSources-after _ _ _ count _ _ (omega (arith, many))
          (HasRead-input count fault of_input.faults) read.sources;
      input = record {
        read = IsErrOf-read_iff fault count (length old) _ many of_input.failed;
        taken = of_input.no_further;
        ended = tt;
        untouched = λ log stops lower.
            let at = StopsAt-input count fault of_input.faults log stops in
            absurd (omega (arith, at, many, lower));
        none_read = λ is. absurd (IsErrOf-input_not_too_many count fault of_input.faults is);
      };
    })

pub returns : goal.returns
returns g c =
    let noted = c.in-Ok.ensures.noted in
    let read = noted.1 in
    let text = c.in-Ok-read_log.text.items in
    let of_input = c.in-Ok-read_log.ensures in
    EndsMakingBoth-made g.I.Source.model g.S.Source.model _ _ _ _ text noted.0
    (record {
      text = λ before known.
          subst (λ o. IfSome o (λ all. text ≡ all)) known of_input.bytes;
      bytes = read.bytes;
      short = of_input.fits;
      fit = read.fit;
      delivered = record { of_input = of_input.delivered; of_logs = read.delivered };
      refusal = tt;
      stopped = tt;
      nothing_written = IsErrOf-not_ok _ Write;
      sources = LeavesSources-after _ _ _ (length c.args.sources.now) _ _ (omega arith)
          (HasRead-written _ _ tt) read.sources;
      input = record {
        read = IsErrOf-ok_iff _ _ _ _ _ of_input.failed;
        taken = of_input.no_further;
        ended = of_input.end;
        untouched = λ log stops lower. absurd (StopsAt-not_ok _ log stops);
        none_read = λ is. absurd (IsErrOf-not_ok _ TooManyLogs is);
      };
    })
    (IsTaskReading c.args.task) c.read_noted.result
    (rw c.deref.ensures.value at (c.read_noted.ensures noted.0 read.fit noted.2))

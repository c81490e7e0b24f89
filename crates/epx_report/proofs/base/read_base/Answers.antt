use Rattle.std.proofs.Common.{◌≡◌, ◌∙◌, true, false, Err, length, sym, ap, rules, arith}
use Rattle.epx_types.proofs.Common.{nil_from_length, nat_tests}
use Rattle.epx_lines.specs.Lines.{lines_of}
use Rattle.epx_report.specs.inner.Progress.{is_complete}
use Rattle.epx_report.specs.inner.BaseReadings.{reading, base_reading}
use Rattle.epx_report.proofs.BaseLemmas.{IsBase-from_IsReadBase, IsBadBase-from_reading}
use Rattle.epx_report.proofs.BaseReadingLemmas.{reading-complete, reading-early}
use Rattle.epx_report.proofs.base.read_base.Goals as goal

pub returns-then-not-branch-clause-bad : goal.returns-then-not-branch-clause-bad
returns-then-not-branch-clause-bad c =
    IsBadBase-from_reading c.args.bytes.now c.loop-rest.line (search rules)

pub returns-then-not-is_complete-clause-bad : goal.returns-then-not-is_complete-clause-bad
returns-then-not-is_complete-clause-bad c =
    let over : length c.loop-rest.rest.now ≡ 0 = grind (arith, nat_tests) in
    let early : is_complete c.loop-rest.progress ≡ false = cc in
    let read : base_reading c.args.bytes.now ≡ Err c.loop-rest.line =
    sym c.loop-rest.invariant.read
    ∙ ap (λ rest. reading c.loop-rest.progress c.loop-rest.line (lines_of rest))
    (nil_from_length c.loop-rest.rest.now over)
    ∙ reading-early c.loop-rest.progress c.loop-rest.line early in
    IsBadBase-from_reading c.args.bytes.now c.loop-rest.line read

pub returns-clause-base : goal.returns-clause-base
returns-clause-base c =
    let over : length c.loop-rest.rest.now ≡ 0 = grind (arith, nat_tests) in
    let complete : is_complete c.loop-rest.progress ≡ true = cc in
    IsBase-from_IsReadBase c.args.bytes.now c.in_ok-into_base.field-0.done
    c.in_ok-into_base.field-0.stored (record {
      seen = c.loop-rest.progress;
      read = sym c.loop-rest.invariant.read
          ∙ ap (λ rest. reading c.loop-rest.progress c.loop-rest.line (lines_of rest))
          (nil_from_length c.loop-rest.rest.now over)
          ∙ reading-complete c.loop-rest.progress c.loop-rest.line complete;
      done_is = c.in_ok-into_base.ensures.done;
      stored_is = c.in_ok-into_base.ensures.stored;
    })

use Rattle.std.proofs.Common.{◌≡◌, ◌<◌, length, length-set, get_or, ◌∙◌, arith}
use Rattle.epx_types.proofs.Common.{get_or_read, All-get_or}
use Rattle.std.proofs.lemmas.Nat.{one_shl}
use Rattle.epx_audit.proofs.SourceMarkLemmas.{AreMarked-next}
use Rattle.epx_audit.proofs.source_marks.source_marks.Goals as goal

pub loop-bit-preserved : goal.loop-bit-preserved
loop-bit-preserved c =
    let words = c.loop-bit.words.items in
    let slots = c.args.slots.now in
    let n = c.loop-bit.bit in
    let slot = get_or slots n 0 in
    let within : slot < length words =
    omega (
      arith,
      All-get_or (λ s. s < c.args.len) slots n 0 c.loop-bit-test.true
          c.requires.in_range,
      c.loop-bit.invariant.len,
    ) in
    let read : c.index_mut.result.now ≡ get_or words slot 0 =
    get_or_read words slot _ within c.index_mut.ensures.value 0 in
    let shifted = one_shl n 64 (omega (arith, c.loop-bit-test.true, c.requires.few)) in
    record {
      len = length-set words _ _ ∙ c.loop-bit.invariant.len;
      marks = rw (read, shifted) (AreMarked-next slots words n within c.loop-bit.invariant.marks);
    }

use Rattle.std.proofs.Common.{arith, subst, sym}
use Rattle.epx_types.proofs.keys.ShortTextLemmas.{IsShortText-over_zeros}
use Rattle.epx_types.specs.KeyHeads.{AreBytes}
use Rattle.epx_types.proofs.short_text.ShortText.new.Goals as goal

pub invariant_of-result : goal.invariant_of-result
invariant_of-result c = record {
  fits = IsShortText-over_zeros _ _ c.copy_from_slice.ensures.after
      c.if-source-gt-MAX_SHORT_KEY_BYTES.false c.as_bytes-source.ensures.utf8
      (subst AreBytes (sym c.as_bytes-source.ensures.value)
      (λ i. omega (arith, c.type_inv.text i)));
}

use Rattle.std.proofs.Common.{[], ◌∙◌, length-set, arith, ap, sym, rules}
use Rattle.epx_types.proofs.Common.{IsPermutation-refl}
use Rattle.epx_store.proofs.RangeLemmas.{IsPermutation-cut_all, IsPermutation-cut_more}
use Rattle.epx_store.proofs.ranges.cut_lists.Goals as goal

pub loop-number-init : goal.loop-number-init
loop-number-init c = (search rules, search rules, search rules, IsPermutation-refl [])

pub loop-number-preserved : goal.loop-number-preserved
loop-number-preserved c =
    let n = c.loop-number.number in
    let low = c.in_ok-before.before in
    let high = c.in_ok-before.after in
    let here = c.loop-number-test.true in (
      c.loop-number.invariant.0,
      length-set c.loop-number.low n low ∙ c.loop-number.invariant.1,
      length-set c.loop-number.high n high ∙ c.loop-number.invariant.2,
      IsPermutation-cut_more (λ v. v.items) c.args.lists c.loop-number.low c.loop-number.high n
          c.index-lists-number.result low high (omega (arith, here, c.loop-number.invariant.0))
          (omega (arith, here, c.loop-number.invariant.1))
          (omega (arith, here, c.loop-number.invariant.2)) c.index-lists-number.is
          (c.in_ok-before.ensures ∙ c.deref.ensures.value
          ∙ ap (λ v. v.items) (sym c.index-lists-number.is)) c.loop-number.invariant.3,
    )

pub returns : goal.returns
returns c =
    let past = c.loop-number-test.false in
    IsPermutation-cut_all (λ v. v.items) c.args.lists c.loop-number.low c.loop-number.high
    c.loop-number.number (omega (arith, past, c.loop-number.invariant.0))
    (omega (arith, past, c.loop-number.invariant.1))
    (omega (arith, past, c.loop-number.invariant.2)) c.loop-number.invariant.3

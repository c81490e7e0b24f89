use Rattle.std.proofs.Common.{T, map, subst, sym, ap, ◌∙◌}
use Rattle.epx_types.proofs.Common.{is_sorted, map-append, key_cmp}
use Rattle.epx_store.proofs.RangeLemmas.{rises-joined}
use Rattle.epx_store.proofs.ranges.append_range.Goals as goal

pub returns-clause-rises : goal.returns-clause-rises
returns-clause-rises c = λ above first next.
    let pairs = c.args.pairs.now.items in
    let range = c.args.range.items in
    subst (λ es. T (is_sorted key_cmp es))
    (sym (ap (map (λ p. (p.0.now, p.1))) c.in_ok-append.ensures.items
    ∙ map-append (λ p. (p.0.now, p.1)) pairs range))
    (rises-joined (map (λ p. (p.0.now, p.1)) pairs) (map (λ p. (p.0.now, p.1)) range) first next
    (rw c.deref.ensures.value at rw c.deref-2.ensures.value at c.are_below-above.ensures above))

use Rattle.std.proofs.Common.{sym, subst}
use Rattle.epx_linear.specs.inner.Spans.{AreRanksOf, HavePlaces}
use Rattle.epx_linear.proofs.SpanLemmas.{AreSpansOf-sorted, length-sorted_spans, HavePlaces-spans}
use Rattle.epx_linear.proofs.spans.Spans.new.Goals as goal

pub ranks_of-requires : goal.ranks_of-requires
ranks_of-requires c =
    let h = c.args.history.now in
    let old = c.in_ok-spans.spans.items in
    let new = c.sort_unstable.new.self.items in
    let is = c.in_ok-spans.ensures in
    let moved = c.sort_unstable.ensures.permutation in
    subst HavePlaces (sym c.deref.ensures.value)
    (HavePlaces-spans h new
    (AreSpansOf-sorted h c.requires old new is.times is.places moved c.sort_unstable.ensures.sorted)
    (length-sorted_spans h c.requires old new is.times is.places moved))

pub returns-clause-spans : goal.returns-clause-spans
returns-clause-spans c = AreSpansOf-sorted c.args.history.now c.requires c.in_ok-spans.spans.items
    c.sort_unstable.new.self.items c.in_ok-spans.ensures.times c.in_ok-spans.ensures.places
    c.sort_unstable.ensures.permutation c.sort_unstable.ensures.sorted

pub returns-clause-ranks : goal.returns-clause-ranks
returns-clause-ranks c = subst (λ l. AreRanksOf l c.in_ok-ranks.ranks.items)
    c.deref.ensures.value c.in_ok-ranks.ensures

pub returns-clause-len : goal.returns-clause-len
returns-clause-len c = length-sorted_spans c.args.history.now c.requires c.in_ok-spans.spans.items
    c.sort_unstable.new.self.items c.in_ok-spans.ensures.times c.in_ok-spans.ensures.places
    c.sort_unstable.ensures.permutation

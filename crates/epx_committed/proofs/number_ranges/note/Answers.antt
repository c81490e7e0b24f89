use Rattle.std.proofs.Common.{subst}
use Rattle.epx_types.proofs.Common.{get_or_read}
use Rattle.epx_committed.specs.inner.NumberRanges.{Lengthens}
use Rattle.epx_committed.proofs.NumberRangeLemmas.{AreRangesIn-set, AreRangesIn-same}
use Rattle.epx_committed.proofs.number_ranges.note.Goals as goal

pub returns : goal.returns
returns c = λ ids at are.
    let made = c.in_ok-make_ranges.ensures in
    let ranges = c.make_ranges.new.ranges.items in
    let read = get_or_read ranges c.args.id.replica c.index.result.now made.len c.index.ensures _ in
    AreRangesIn-set ids ranges c.args.id c.args.position c.with_next.result made.len at
    (subst (λ r. Lengthens r c.args.id.number c.args.position c.with_next.result) read
    c.with_next.ensures) (AreRangesIn-same ids c.args.ranges.now.items ranges made.same are)

use Rattle.std.proofs.Common.{ap, ◌∙◌}
use Rattle.epx_types.proofs.Common.{get_or_read}
use Rattle.epx_committed.specs.inner.NumberRanges.{range_of}
use Rattle.epx_committed.proofs.NumberRangeLemmas.{slice_get-position_in}
use Rattle.epx_committed.proofs.number_ranges.NumberRanges.find.Goals as goal

pub returns : goal.returns
returns c =
    let id = c.args.id in
    let read = c.in_ok-get.ensures.lookup in
    let range = get_or_read c.deref.result.now id.replica c.in_ok-get.field-0.now read.3.0 read.1 _
    ∙ ap (λ l. range_of l id) c.deref.ensures.value in
    slice_get-position_in c.args.self.now.ranges.items id c.in_ok-get.field-0.now range
    c.find.result
    c.find.ensures.number c.find.ensures.position

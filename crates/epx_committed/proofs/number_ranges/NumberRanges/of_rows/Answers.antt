use Rattle.std.proofs.Common.{map, get_or}
use Rattle.epx_types.proofs.Common.{slice_get-get_or}
use Rattle.epx_types.proofs.lists.ListPositionLemmas.{slice_get-map}
use Rattle.epx_committed.specs.declared.rows.Row.{Row}
use Rattle.epx_committed.proofs.NumberRangeLemmas.{AreRangesIn-nil}
use Rattle.epx_committed.proofs.RowLemmas.{empty_row}
use Rattle.epx_committed.proofs.number_ranges.NumberRanges.of_rows.Goals as goal

pub loop-position-init : goal.loop-position-init
loop-position-init c = rw c.new-ranges.ensures.items
    (AreRangesIn-nil (map (λ (r : Row). r.id) c.args.rows.now))

pub loop-position-preserved : goal.loop-position-preserved
loop-position-preserved c =
    let rows = c.args.rows.now in
    let k = c.loop-position.position in
    c.in_ok-note.ensures (map (λ (r : Row). r.id) rows)
    (slice_get-map (λ (r : Row). r.id) rows k (get_or rows k empty_row)
    (slice_get-get_or rows k empty_row c.loop-position-test.true)) c.loop-position.invariant

pub returns : goal.returns
returns c = c.loop-position.invariant

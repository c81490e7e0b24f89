use Rattle.std.proofs.Common.{map}
use Rattle.epx_committed.specs.inner.NumberRanges.{AreRangesIn}
use Rattle.epx_committed.proofs.number_ranges.NumberRanges.of_rows.Given as goal

abbrev pub invariant-loop-position : goal.invariant-loop-position
invariant-loop-position l = AreRangesIn (map (λ r. r.id) l.rows) l.ranges.items

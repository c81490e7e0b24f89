use Rattle.std.proofs.Common.{◌≡◌, ◌+◌, ◌-◌, length}
use Rattle.epx_types.specs.declared.id.Id.{Id}
use Rattle.epx_committed.specs.inner.NumberRanges.{range_of}
use Rattle.epx_committed.proofs.number_ranges.make_ranges.Given as goal

abbrev pub invariant-loop-ranges : goal.invariant-loop-ranges
invariant-loop-ranges l = (x : Id) → range_of l.ranges.items x ≡ range_of l.initial.ranges.items x

abbrev pub decreases-loop-ranges : goal.decreases-loop-ranges
decreases-loop-ranges l = l.replica + 1 - length l.ranges.items

use Rattle.std.proofs.Common.{◌≡◌, Bool, drop, reverse}
use Rattle.epx_types.specs.declared.id.Id.{Id}
use Rattle.epx_compare.specs.Gaps.{gaps_of}
use Rattle.epx_compare.specs.inner.LogMarks.{IsMarking}
use Rattle.epx_compare.proofs.gaps.find_gaps.Given as goal

abbrev pub invariant-loop-index : goal.invariant-loop-index
invariant-loop-index l = (has : Id → Bool) → IsMarking has l.log l.ids l.marks
    → reverse l.gaps.items ≡ gaps_of has (drop l.index l.ids)

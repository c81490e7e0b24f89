use Rattle.std.proofs.Common.{Contains, take}
use Rattle.epx_picture.specs.inner.NodeMarks.{MarksMore}
use Rattle.epx_picture.proofs.neighbourhood.mark_targets.Given as goal

abbrev pub invariant-loop-target : goal.invariant-loop-target
invariant-loop-target l = MarksMore (Contains (take l.target-index l.targets))
    (record { marks = l.initial.marks; level = l.initial.next.items })
    (record { marks = l.marks; level = l.next.items })

use Rattle.std.proofs.Common.{[], take}
use Rattle.epx_picture.specs.inner.NodeMarks.{MarksMore, IsNextTo}
use Rattle.epx_picture.proofs.neighbourhood.mark_level.Given as goal

abbrev pub invariant-loop-node : goal.invariant-loop-node
invariant-loop-node l = MarksMore (IsNextTo l.graph (take l.node-index l.level))
    (record { marks = l.initial.marks; level = [] })
    (record { marks = l.marks; level = l.next.items })

use Rattle.epx_picture.specs.inner.Clusters.{AreLeaderMarks}
use Rattle.epx_picture.proofs.cluster.mark_leaders.Given as goal

abbrev pub invariant-loop-node : goal.invariant-loop-node
invariant-loop-node l = AreLeaderMarks l.node_ranks l.node l.marks.items

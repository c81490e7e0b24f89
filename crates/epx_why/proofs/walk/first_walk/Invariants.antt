use Rattle.std.proofs.Common.{suc}
use Rattle.epx_why.specs.inner.NodeWalks.{IsWalkBegun}
use Rattle.epx_why.proofs.walk.first_walk.Given as goal

abbrev pub invariant-loop-left : goal.invariant-loop-left
invariant-loop-left l = IsWalkBegun l.graph l.distances.items l.target l.node (suc l.fewest)
    l.nodes.items l.last l.left

abbrev pub decreases-loop-left : goal.decreases-loop-left
decreases-loop-left l = l.left

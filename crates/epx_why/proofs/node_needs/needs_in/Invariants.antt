use Rattle.epx_why.specs.inner.NodeNeeds.{AreNeedsIn}
use Rattle.epx_why.proofs.node_needs.needs_in.Given as goal

abbrev pub invariant-loop-node : goal.invariant-loop-node
invariant-loop-node l = AreNeedsIn l.graph l.distances l.start l.node l.needs.items

use Rattle.epx_graph.specs.inner.Waiters.{AreWaiters}
use Rattle.epx_graph.proofs.waiters.waiting.Given as goal

abbrev pub invariant-loop-node : goal.invariant-loop-node
invariant-loop-node l = AreWaiters l.graph l.marks.items l.node l.waiters.items

use Rattle.std.proofs.Common.{Contains}
use Rattle.epx_graph.proofs.Common.{edges_of}
use Rattle.epx_blockers.specs.inner.NodeCounts.{AreMissingCounts}
use Rattle.epx_blockers.proofs.named.count_named.Given as goal

abbrev pub invariant-loop-node : goal.invariant-loop-node
invariant-loop-node l = AreMissingCounts l.graph (λ k j. Contains (edges_of l.graph k) j) l.node
    l.named.items

use Rattle.std.proofs.Common.{◌⊎◌, ℕ, ◌<◌, get_or, length, All, Contains}
use Rattle.epx_graph.proofs.Common.{DependencyGraph, edges_of}
use Rattle.epx_audit.specs.inner.ReachIndexes.{IsReachIndex}
use Rattle.epx_audit.specs.inner.UnsettledNodes.{Follows}
use Rattle.epx_audit.proofs.unsettled_nodes.with_end.Given as goal

abbrev pub invariant-loop-end : goal.invariant-loop-end
invariant-loop-end l = record {
  in_graph : All (λ k. k < length l.reach.positions.items) l.more.items;
  behind : (g : DependencyGraph) → IsReachIndex g l.reach → (i : ℕ) → i < l.end-index
      → Contains l.more.items (get_or l.ends i 0)
      ⊎ Follows (edges_of g) l.on l.node (get_or l.ends i 0);
}

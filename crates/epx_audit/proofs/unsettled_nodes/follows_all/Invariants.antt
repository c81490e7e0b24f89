use Rattle.std.proofs.Common.{ℕ, ◌<◌, get_or}
use Rattle.epx_graph.proofs.Common.{DependencyGraph, edges_of}
use Rattle.epx_audit.specs.inner.ReachIndexes.{IsReachIndex}
use Rattle.epx_audit.specs.inner.UnsettledNodes.{Follows}
use Rattle.epx_audit.proofs.unsettled_nodes.follows_all.Given as goal

abbrev pub invariant-loop-end : goal.invariant-loop-end
invariant-loop-end l = (g : DependencyGraph) → IsReachIndex g l.reach → (i : ℕ) → i < l.end-index
    → Follows (edges_of g) l.on l.node (get_or l.ends i 0)

-- The invariant of a graph, for its nodes and edges.
use Rattle.std.proofs.Common.{ℕ, ◌<◌, length, get_or, arith, Contains}
use Rattle.epx_types.proofs.Common.{Contains-get_or}
use Rattle.epx_graph.proofs.Common.{DependencyGraph, edges_of, IsGraph, edges_of-from_committed}
use Rattle.epx_graph.proofs.Common.{edges_of-within}

-- only nodes have edges
pub edges_of-source_within : (g : DependencyGraph) → IsGraph g → (k j : ℕ)
    → Contains (edges_of g k) j
    → k < length g.ids
edges_of-source_within g is k j h =
    omega (arith, edges_of-from_committed g is k j h, is.committed_nodes)

-- and edges lead only to nodes
pub edges_of-target_within : (g : DependencyGraph) → IsGraph g → (k i : ℕ)
    → i < length (edges_of g k)
    → get_or (edges_of g k) i 0 < length g.ids
edges_of-target_within g is k i l = edges_of-within g is k (get_or (edges_of g k) i 0)
    (Contains-get_or (edges_of g k) i 0 l)

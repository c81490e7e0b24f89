-- The missing nodes with their numbers.
use Rattle.std.specs.Prelude.{◌≡◌, ℕ, ◌≤◌, List, map, Contains, Some, slice_get}
use Rattle.epx_graph.specs.Graphs.{DependencyGraph, edges_of, missing_ids}
use Rattle.epx_blockers.specs.declared.blocker.Blocker.{Blocker}
use Rattle.epx_blockers.specs.inner.NodeCounts.{IsNodeCount}
use Rattle.epx_blockers.specs.inner.ReachedNodes.{IsOnlyReached}

-- a missing node, the number of committed nodes that reach it and no other missing one, and the
-- number of those with an edge to it
pub record IsNodeBlocker (g : DependencyGraph) (b : Blocker) : Type 0 where
  pub node : ℕ
  pub missing : g.committed ≤ node
  pub id : slice_get g.ids node ≡ Some b.id
  pub alone : IsNodeCount (λ k. IsOnlyReached g k node) g.committed b.alone
  pub named : IsNodeCount (λ k. Contains (edges_of g k) node) g.committed b.named

-- each missing node once, by rising Id, with both of its counts: of the committed nodes that it
-- alone blocks, and of those with an edge to it
pub record AreNodeBlockers (g : DependencyGraph) (bs : List Blocker) : Type 0 where
  pub ids : map (λ b. b.id) bs ≡ missing_ids g
  pub each : (b : Blocker) → Contains bs b → IsNodeBlocker g b

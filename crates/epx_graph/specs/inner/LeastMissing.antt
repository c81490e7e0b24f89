-- The least missing node that a node reaches.
use Rattle.std.specs.Prelude.{◌≡◌, ℕ, ◌<◌, ◌≤◌, List, length, Option, Some, None}
use Rattle.epx_graph.specs.Graphs.{DependencyGraph, edges_of}
use Rattle.epx_graph.specs.NodePaths.{NodeReaches}
use Rattle.epx_graph.specs.inner.Searches.{node_mark}

-- s is the least of the missing nodes that k reaches
pub record IsLeastMissing (g : DependencyGraph) (k s : ℕ) : Type 0 where
  pub missing : g.committed ≤ s
  pub reached : NodeReaches (edges_of g) k s
  pub least : (z : ℕ) → g.committed ≤ z → NodeReaches (edges_of g) k z → s ≤ z

-- the mark of each node is the least missing node that it reaches; a node without a mark reaches
-- none
pub record AreMarksOf (g : DependencyGraph) (marks : List (Option ℕ)) : Type 0 where
  pub nodes : length marks ≡ length g.ids
  pub marked : (k s : ℕ) → node_mark marks k ≡ Some s → IsLeastMissing g k s
  pub unmarked : (k s : ℕ) → k < g.committed → node_mark marks k ≡ None → g.committed ≤ s
      → s < length g.ids → ¬ NodeReaches (edges_of g) k s

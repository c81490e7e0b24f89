-- Marks of the nodes of ready instances.
use Rattle.std.specs.Prelude.{◌≡◌, ◌↔◌, ℕ, ◌<◌, List, Bool, false, length, slice_index_or, IsTrue}
use Rattle.epx_graph.specs.Graphs.{DependencyGraph, edges_of}
use Rattle.epx_components.specs.between.MissingNodes.{ReachesMissing}

-- the mark of a node; false past the end of the list
abbrev pub is_marked : List Bool → ℕ → Bool
is_marked marks k = slice_index_or marks k false

-- for each node, whether it reaches no missing node; a missing node reaches itself
pub record AreReadyMarks (g : DependencyGraph) (marks : List Bool) : Type 0 where
  pub nodes : length marks ≡ length g.ids
  pub exact : (k : ℕ) → k < length g.ids → IsTrue (is_marked marks k)
      ↔ (¬ ReachesMissing (edges_of g) g.committed k)

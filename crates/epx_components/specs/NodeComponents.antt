-- Strongly connected components over the nodes of a graph, and their leaders.
use Rattle.std.specs.Prelude.{ℕ, ◌≤◌, List}
use Rattle.epx_graph.specs.NodePaths.{NodeReaches}

-- each reaches the other
abbrev pub InOneNodeComponent : (ℕ → List ℕ) → ℕ → ℕ → Type 0
InOneNodeComponent edges k j = NodeReaches edges k j × NodeReaches edges j k

-- `leader` is the least node of the component of k
pub record IsNodeLeader (edges : ℕ → List ℕ) (k leader : ℕ) : Type 0 where
  pub member : InOneNodeComponent edges k leader
  pub least : (j : ℕ) → InOneNodeComponent edges k j → leader ≤ j

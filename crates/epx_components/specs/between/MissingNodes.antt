-- Missing nodes: those from some number on.
use Rattle.std.specs.Prelude.{ℕ, ◌≤◌, List}
use Rattle.epx_graph.specs.NodePaths.{NodeReaches}

-- k reaches a node whose number is `committed` or greater: a missing node
abbrev pub ReachesMissing : (ℕ → List ℕ) → ℕ → ℕ → Type 0
ReachesMissing edges committed k = (j : ℕ) × (committed ≤ j) × NodeReaches edges k j

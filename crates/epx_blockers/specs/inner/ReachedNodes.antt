-- The missing nodes that a node reaches.
use Rattle.std.specs.Prelude.{◌≡◌, ◌≢◌, ℕ, ◌≤◌, List, slice_index_or}
use Rattle.epx_graph.specs.Graphs.{DependencyGraph, edges_of}
use Rattle.epx_graph.specs.NodePaths.{NodeReaches}
use Rattle.epx_components.specs.between.Partitions.{ComponentParts, component_of}
use Rattle.epx_blockers.specs.declared.reached.Reached.{Reached}
use Rattle.epx_blockers.specs.declared.reached.Reached.TheVariants.{Nothing, One, Several}

-- k reaches j, which is missing
abbrev pub ReachesMissingNode : DependencyGraph → ℕ → ℕ → Type 0
ReachesMissingNode g k j = (g.committed ≤ j) × NodeReaches (edges_of g) k j

-- j is the one missing node that k reaches
abbrev pub IsOnlyReached : DependencyGraph → ℕ → ℕ → Type 0
IsOnlyReached g k j = ReachesMissingNode g k j
    × ((i : ℕ) → ReachesMissingNode g k i → i ≡ j)

-- the value says which missing nodes k reaches
abbrev pub IsReached : DependencyGraph → ℕ → Reached → Type 0
IsReached g k Nothing = (j : ℕ) → ¬ ReachesMissingNode g k j
IsReached g k (One j) = IsOnlyReached g k j
IsReached g k Several = (i j : ℕ) × ReachesMissingNode g k i × ReachesMissingNode g k j × (i ≢ j)

-- the value says that a missing node other than t is reached
abbrev pub HasOther : ℕ → Reached → Type 0
HasOther t Nothing = ⊥
HasOther t (One j) = j ≢ t
HasOther t Several = Unit {0}

-- the value of a node's component, from a list with a value for each component
abbrev pub reached_for : ComponentParts → List Reached → ℕ → Reached
reached_for p reached k = slice_index_or reached (component_of p k) Nothing

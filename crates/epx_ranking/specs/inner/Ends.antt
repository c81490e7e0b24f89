-- For each component, the position in a list of nodes after which the component is complete, and
-- the same for the components that it reaches.
use Rattle.std.specs.Prelude.{◌≡◌, ◌≢◌, ◌⊎◌, ℕ, ◌+◌, ◌<◌, ◌≤◌, List, length, slice_index}
use Rattle.std.specs.Prelude.{Option, Some, None, get_or}
use Rattle.epx_ranking.specs.declared.check.sequence_key.SequenceKey.{SequenceKey}
use Rattle.epx_graph.specs.NodePaths.{NodeReaches}
use Rattle.epx_components.specs.between.Partitions.{ComponentParts, component_of, number_for}

-- for each component: one more than the last of the first n positions at which it has a member, or
-- 0
pub record AreEnds (p : ComponentParts) (nodes : List ℕ) (n : ℕ) (ends : List ℕ) : Type 0 where
  pub whole : length ends ≡ p.count
  pub all : (i : ℕ) → i < n → i + 1 ≤ number_for p ends (slice_index nodes i)
  pub one : (k : ℕ) → k < length p.component
      → (number_for p ends k ≡ 0)
      ⊎ ((i : ℕ) × (i < n) × (component_of p (slice_index nodes i) ≡ component_of p k)
      × (number_for p ends k ≡ i + 1))

-- the ends, where those of components with a member that the list leaves out are `last`
pub record AreRaised (left_out : List (Option SequenceKey)) (last : ℕ) (ends raised : List ℕ)
    : Type 0 where
  pub whole : length raised ≡ length ends
  pub complete : (c : ℕ) → get_or left_out c None ≡ None → get_or raised c 0 ≡ get_or ends c 0
  pub incomplete : (c : ℕ) (t : SequenceKey) → c < length ends → get_or left_out c None ≡ Some t
      → get_or raised c 0 ≡ last

-- the greatest end of the other components that a node reaches, or 0
pub record IsEndBelow (edges : ℕ → List ℕ) (p : ComponentParts) (ends : List ℕ)
    (k found : ℕ) : Type 0 where
  pub all : (j : ℕ) → NodeReaches edges k j → component_of p j ≢ component_of p k
      → number_for p ends j ≤ found
  pub one : (found ≡ 0) ⊎ ((j : ℕ) × NodeReaches edges k j × (component_of p j ≢ component_of p k)
      × (found ≡ number_for p ends j))

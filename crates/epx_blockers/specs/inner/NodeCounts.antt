-- How many nodes have a property, node by node.
use Rattle.std.specs.Prelude.{◌≡◌, ◌↔◌, ◌⊎◌, ℕ, ◌+◌, ◌<◌, ◌≤◌, List, length, slice_index, Contains}
use Rattle.std.specs.Prelude.{AllPairs}
use Rattle.epx_graph.specs.Graphs.{DependencyGraph}

-- so many of the nodes below n have the property
pub record IsNodeCount (P : ℕ → Type 0) (n count : ℕ) : Type 0 where
  pub nodes : List ℕ
  pub rising : AllPairs (λ i j. i < j) nodes
  pub exact : (k : ℕ) → Contains nodes k ↔ ((k < n) × P k)
  pub counted : length nodes ≡ count
  pub few : count ≤ n

-- for each missing node j, how many of the nodes k below n have the property `P k j`
pub record AreMissingCounts (g : DependencyGraph) (P : ℕ → ℕ → Type 0) (n : ℕ)
    (counts : List ℕ) : Type 0 where
  pub all : g.committed + length counts ≡ length g.ids
  pub each : (i : ℕ) → i < length counts
      → IsNodeCount (λ k. P k (g.committed + i)) n (slice_index counts i)

-- one more exactly if the fact holds
abbrev pub IsOneMoreIf : Type 0 → ℕ → ℕ → Type 0
IsOneMoreIf P old new = (P × (new ≡ old + 1)) ⊎ ((¬ P) × (new ≡ old))

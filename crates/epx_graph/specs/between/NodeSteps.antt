-- Paths over nodes by the number of their edges, and the distances of nodes.
use Rattle.std.specs.Prelude.{◌≡◌, ℕ, zero, suc, ◌≤◌, List, length, Contains, Option, Some, None}
use Rattle.std.specs.Prelude.{slice_index_or}
use Rattle.epx_graph.specs.Graphs.{DependencyGraph, edges_of}

-- a path of n edges leads from k to j
abbrev pub LeadsTo : (ℕ → List ℕ) → ℕ → ℕ → ℕ → Type 0
LeadsTo edges k zero j = k ≡ j
LeadsTo edges k (suc n) j = (c : ℕ) × Contains (edges k) c × LeadsTo edges c n j

-- the distance of node j, from a list with one for each node; None if no path leads to the node,
-- and past the end of the list
abbrev pub distance_at : List (Option ℕ) → ℕ → Option ℕ
distance_at distances j = slice_index_or distances j None

-- the least number n with `Leads n j` for each node j, or None where there is none
pub record AreLeast (Leads : ℕ → ℕ → Type 0) (count : ℕ) (distances : List (Option ℕ)) : Type
    0 where
  pub nodes : length distances ≡ count
  pub leads : (j n : ℕ) → distance_at distances j ≡ Some n → Leads n j
  pub least : (j n : ℕ) → Leads n j → (l : ℕ) × (l ≤ n) × (distance_at distances j ≡ Some l)

-- for each node the number of edges of a shortest path from k
abbrev pub AreDistancesFrom : DependencyGraph → ℕ → List (Option ℕ) → Type 0
AreDistancesFrom g k distances =
    AreLeast (λ n j. LeadsTo (edges_of g) k n j) (length g.ids) distances

-- for each node the number of edges of a shortest path to k
abbrev pub AreDistancesTo : DependencyGraph → ℕ → List (Option ℕ) → Type 0
AreDistancesTo g k distances =
    AreLeast (λ n j. LeadsTo (edges_of g) j n k) (length g.ids) distances

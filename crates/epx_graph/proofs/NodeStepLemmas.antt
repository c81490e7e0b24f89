-- Paths over nodes by the number of their edges, and the distances of nodes along edges and against
-- them.
use Rattle.std.proofs.Common.{◌≡◌, ℕ, zero, suc, ◌+◌, ◌<◌, List, [], ◌∷◌, length, All, Contains}
use Rattle.std.proofs.Common.{Option, Some, refl, sym, subst, subst₂, arith}
use Rattle.epx_types.proofs.Common.{All-from_get_or, All-weaker, All-contains_itself}
use Rattle.epx_rows.specs.between.Rows.{row_of, AreTransposed}
use Rattle.epx_graph.specs.declared.search.MarkKind.TheVariants as kind
use Rattle.epx_graph.specs.Graphs.{DependencyGraph, edges_of, IsGraph}
use Rattle.epx_graph.specs.NodePaths.{IsNodePath, NodeReaches}
use Rattle.epx_graph.specs.between.NodeSteps.{LeadsTo, AreLeast, AreDistancesFrom, AreDistancesTo}
use Rattle.epx_graph.specs.between.NodeSteps.{distance_at}
use Rattle.epx_graph.specs.inner.Searches.{LeadsIn, mark_by, AreFirstMarks}
use Rattle.epx_graph.proofs.GraphNodeLemmas.{edges_of-from_committed}
use Rattle.epx_graph.proofs.SearchLemmas.{IsMarked-if_not_none}

module _ (edges : ℕ → List ℕ) where
  -- a path with one more edge at its end
  LeadsTo-push : (n k p j : ℕ) → LeadsTo edges k n p → Contains (edges p) j
      → LeadsTo edges k (suc n) j
  LeadsTo-push zero k p j there edge =
      (j, subst (λ (q : ℕ). Contains (edges q) j) (sym there) edge, refl)
  LeadsTo-push (suc n) k p j there edge =
      (there.0, there.1, LeadsTo-push n there.0 p j there.2 edge)

  -- and at its start
  LeadsIn-cons : (n k c j : ℕ) → Contains (edges k) c → LeadsIn edges c n j
      → LeadsIn edges k (suc n) j
  LeadsIn-cons zero k c j edge there = (k, refl, subst (Contains (edges k)) there edge)
  LeadsIn-cons (suc n) k c j edge there =
      (there.0, LeadsIn-cons n k c there.0 edge there.1, there.2)

  -- the two ways to take a path apart
  LeadsTo-from_LeadsIn : (n k j : ℕ) → LeadsIn edges k n j → LeadsTo edges k n j
  LeadsTo-from_LeadsIn zero k j there = there
  LeadsTo-from_LeadsIn (suc n) k j there =
      LeadsTo-push n k there.0 j (LeadsTo-from_LeadsIn n k there.0 there.1) there.2

  LeadsIn-from_LeadsTo : (n k j : ℕ) → LeadsTo edges k n j → LeadsIn edges k n j
  LeadsIn-from_LeadsTo zero k j there = there
  LeadsIn-from_LeadsTo (suc n) k j there =
      LeadsIn-cons n k there.0 j there.1 (LeadsIn-from_LeadsTo n there.0 j there.2)

  -- paths by their nodes
  pub LeadsTo-node_path : (k : ℕ) (cs : List ℕ) (j : ℕ) → IsNodePath edges k cs j
      → LeadsTo edges k (length cs) j
  LeadsTo-node_path k [] j path = path
  LeadsTo-node_path k (c ∷ cs) j path = (c, path.0, LeadsTo-node_path c cs j path.1)

  pub LeadsTo-reaches : (n k j : ℕ) → LeadsTo edges k n j → NodeReaches edges k j
  LeadsTo-reaches zero k j there = ([], there)
  LeadsTo-reaches (suc n) k j there =
      let rest = LeadsTo-reaches n there.0 j there.2 in (there.0 ∷ rest.0, (there.1, rest.1))

-- a path against the edges
module _ (edges sources : ℕ → List ℕ) where
  pub LeadsTo-turned : ((k j : ℕ) → Contains (sources j) k → Contains (edges k) j) → (n k j : ℕ)
      → LeadsIn sources k n j → LeadsTo edges j n k
  LeadsTo-turned turn zero k j there = sym there
  LeadsTo-turned turn (suc n) k j there =
      (there.0, turn j there.0 there.2, LeadsTo-turned turn n k there.0 there.1)

  pub LeadsIn-turned : ((k j : ℕ) → Contains (edges k) j → Contains (sources j) k) → (n k j : ℕ)
      → LeadsTo edges j n k → LeadsIn sources k n j
  LeadsIn-turned turn zero k j there = sym there
  LeadsIn-turned turn (suc n) k j there =
      (there.0, LeadsIn-turned turn n k there.0 there.2, turn j there.0 there.1)

-- where P and Q hold of the same numbers and nodes, the numbers that are least for P are so for Q
pub AreLeast-same : (P Q : ℕ → ℕ → Type 0) (nodes : ℕ) (distances : List (Option ℕ))
    → ((n j : ℕ) → P n j → Q n j) → ((n j : ℕ) → Q n j → P n j) → AreLeast P nodes distances
    → AreLeast Q nodes distances
AreLeast-same P Q nodes distances there back are = record {
  nodes = are.nodes;
  leads = λ j n h. there n j (are.leads j n h);
  least = λ j n h. are.least j n (back n j h);
}

-- the search from one start counts the steps of shortest paths
search_distances : (rows : List (List ℕ)) (k count : ℕ) (distances : List (Option ℕ))
    → AreFirstMarks rows (mark_by kind.Steps) k (k + 1) count distances
    → AreLeast (λ n j. LeadsIn (row_of rows) k n j) count distances
search_distances rows k count distances are = record {
  nodes = are.nodes;
  leads = λ j n h.
      let by = are.marked j n h in
      subst₂ (λ (s i : ℕ). LeadsIn (row_of rows) s i j) (at j n h) (sym by.is) by.leads;
  least = λ j n there.
      let has = IsMarked-if_not_none distances j
      (λ none. are.unmarked j k n none (omega arith) (omega arith) there) in
      let by = are.marked j has.0 has.1 in
      let few = by.fewest n
      (subst (λ (s : ℕ). LeadsIn (row_of rows) s n j) (sym (at j has.0 has.1)) there) in
      (has.0, omega (arith, by.is, few), has.1);
} where
  at : (j n : ℕ) (h : distance_at distances j ≡ Some n) → (are.marked j n h).start ≡ k
  at j n h = let by = are.marked j n h in omega (arith, by.after, by.before)

pub AreDistancesFrom-marks : (g : DependencyGraph) (rows : List (List ℕ)) (k : ℕ)
    (distances : List (Option ℕ)) → ((i : ℕ) → row_of rows i ≡ edges_of g i)
    → AreFirstMarks rows (mark_by kind.Steps) k (k + 1) (length g.ids) distances
    → AreDistancesFrom g k distances
AreDistancesFrom-marks g rows k distances same are =
    let all : (λ (i : ℕ). row_of rows i) ≡ edges_of g = λ d i. same i d in
    AreLeast-same (λ n j. LeadsIn (edges_of g) k n j) (λ n j. LeadsTo (edges_of g) k n j)
    (length g.ids) distances (λ n j. LeadsTo-from_LeadsIn (edges_of g) n k j)
    (λ n j. LeadsIn-from_LeadsTo (edges_of g) n k j)
    (subst (λ (edges : ℕ → List ℕ). AreLeast (λ n j. LeadsIn edges k n j) (length g.ids)
    distances) all (search_distances rows k (length g.ids) distances are))

pub AreDistancesTo-marks : (g : DependencyGraph) (sources : List (List ℕ)) (k : ℕ)
    (distances : List (Option ℕ)) → AreTransposed g.edges sources
    → AreFirstMarks sources (mark_by kind.Steps) k (k + 1) (length g.ids) distances
    → AreDistancesTo g k distances
AreDistancesTo-marks g sources k distances transpose are =
    AreLeast-same (λ n j. LeadsIn (row_of sources) k n j) (λ n j. LeadsTo (edges_of g) j n k)
    (length g.ids) distances
    (λ n j. LeadsTo-turned (edges_of g) (row_of sources) (λ i l h. (transpose i l).1 h) n k j)
    (λ n j. LeadsIn-turned (edges_of g) (row_of sources) (λ i l h. (transpose i l).0 h) n k j)
    (search_distances sources k (length g.ids) distances are)

-- edges come from nodes
pub All-sources_within : (g : DependencyGraph) (sources : List (List ℕ)) → IsGraph g
    → AreTransposed g.edges sources → All (λ row. All (λ k. k < length g.ids) row) sources
All-sources_within g sources graph transpose =
    All-from_get_or (λ (row : List ℕ). All (λ k. k < length g.ids) row) sources [] (λ j l.
    All-weaker (Contains (row_of sources j)) (λ k. k < length g.ids)
    (λ k h.
    let low = edges_of-from_committed g graph k j ((transpose k j).1 h) in
    omega (arith, graph.committed_nodes))
    (row_of sources j) (All-contains_itself (row_of sources j)))

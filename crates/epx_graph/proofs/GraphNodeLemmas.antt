-- The nodes of a graph and their instances.
use Rattle.std.proofs.Common.{◌≡◌, ◌↔◌, ℕ, ◌+◌, ◌-◌, ◌<◌, ◌≤◌, List, [], ◌∷◌, length, get_or}
use Rattle.std.proofs.Common.{slice_get, Some, All, Contains, subst, inl, inr, arith}
use Rattle.epx_types.proofs.Common.{cases_lt, All-contains, All-get_or, slice_get-get_or, Below}
use Rattle.epx_types.proofs.Common.{Contains-nil, slice_get-from_Contains, Contains-slice_get}
use Rattle.epx_types.proofs.Common.{Below-by_position, slice_get-rising_is_unique}
use Rattle.epx_types.specs.declared.id.Id.{Id}
use Rattle.epx_graph.specs.Graphs.{DependencyGraph, edges_of, committed_ids, missing_ids, IsGraph}
use Rattle.epx_graph.specs.NodePaths.{IsNodePath}
use Rattle.epx_graph.proofs.RisingPositionLemmas.{slice_get-take, slice_get-from_take}
use Rattle.epx_graph.proofs.RisingPositionLemmas.{slice_get-drop, slice_get-from_drop}
use Rattle.epx_graph.proofs.RisingPositionLemmas.{IsRising-positions_back}

module _ (g : DependencyGraph) (is : IsGraph g) where
  -- ---- committed nodes and missing ones

  pub slice_get-committed_ids : (k : ℕ) (x : Id) → slice_get g.ids k ≡ Some x → k < g.committed
      → slice_get (committed_ids g) k ≡ Some x
  slice_get-committed_ids k x at l = slice_get-take g.ids g.committed k x l at

  pub slice_get-missing_ids : (k : ℕ) (x : Id) → slice_get g.ids k ≡ Some x → g.committed ≤ k
      → slice_get (missing_ids g) (k - g.committed) ≡ Some x
  slice_get-missing_ids k x at l = slice_get-drop g.ids g.committed k x l at

  -- a committed node has a committed Id, and a missing node a missing one
  pub Contains-committed : (k : ℕ) (x : Id) → slice_get g.ids k ≡ Some x → k < g.committed
      → Contains (committed_ids g) x
  Contains-committed k x at l =
      Contains-slice_get (committed_ids g) k x (slice_get-committed_ids k x at l)

  pub Contains-missing : (k : ℕ) (x : Id) → slice_get g.ids k ≡ Some x → g.committed ≤ k
      → Contains (missing_ids g) x
  Contains-missing k x at l = Contains-slice_get (missing_ids g) (k - g.committed) x
      (slice_get-missing_ids k x at l)

  -- the node of a committed Id, and of a missing one
  pub slice_get-from_committed : (x : Id) → Contains (committed_ids g) x
      → (k : ℕ) × (k < g.committed) × (slice_get g.ids k ≡ Some x)
  slice_get-from_committed x h =
      let p = slice_get-from_Contains (committed_ids g) x h in
      let q = slice_get-from_take g.ids g.committed p.0 x p.1 in
      (p.0, q.0, q.1)

  pub slice_get-from_missing : (x : Id) → Contains (missing_ids g) x
      → (k : ℕ) × (g.committed ≤ k) × (slice_get g.ids k ≡ Some x)
  slice_get-from_missing x h =
      let p = slice_get-from_Contains (missing_ids g) x h in
      (g.committed + p.0, omega arith, slice_get-from_drop g.ids g.committed p.0 x p.1)

  -- ---- each Id has one node

  pub ids-is_unique : (k j : ℕ) (x : Id) → slice_get g.ids k ≡ Some x → slice_get g.ids j ≡ Some x
      → k ≡ j
  ids-is_unique k j x p q =
      elim (cases_lt k g.committed) [
        | inl l ↦ elim (cases_lt j g.committed) [
          | inl m ↦ slice_get-rising_is_unique (committed_ids g) is.committed_rise k j x
              (slice_get-committed_ids k x p l) (slice_get-committed_ids j x q m)
          | inr m ↦ absurd (is.apart x (Contains-committed k x p l) (Contains-missing j x q m))
        ]
        | inr l ↦ elim (cases_lt j g.committed) [
          | inl m ↦ absurd (is.apart x (Contains-committed j x q m) (Contains-missing k x p l))
          | inr m ↦
              let same =
              slice_get-rising_is_unique (missing_ids g) is.missing_rise (k - g.committed)
              (j - g.committed) x (slice_get-missing_ids k x p l) (slice_get-missing_ids j x q m) in
              omega arith
        ]
      ]

  -- ---- nodes are by rising Id, among the committed ones and among the missing ones

  pub Below-committed : (k j : ℕ) (x y : Id) → slice_get g.ids k ≡ Some x
      → slice_get g.ids j ≡ Some y → k < g.committed → j < g.committed → (k < j) ↔ Below x y
  Below-committed k j x y p q l m = (
    Below-by_position (committed_ids g) is.committed_rise k j x y (slice_get-committed_ids k x p l)
        (slice_get-committed_ids j y q m),
    IsRising-positions_back (committed_ids g) is.committed_rise k j x y
        (slice_get-committed_ids k x p l)
        (slice_get-committed_ids j y q m),
  )

  pub Below-missing : (k j : ℕ) (x y : Id) → slice_get g.ids k ≡ Some x
      → slice_get g.ids j ≡ Some y → g.committed ≤ k → g.committed ≤ j → (k < j) ↔ Below x y
  Below-missing k j x y p q l m = (
    λ lower. Below-by_position (missing_ids g) is.missing_rise (k - g.committed) (j - g.committed) x
        y (slice_get-missing_ids k x p l) (slice_get-missing_ids j y q m) (omega arith),
    λ below.
        let lower = IsRising-positions_back (missing_ids g) is.missing_rise (k - g.committed)
        (j - g.committed) x y (slice_get-missing_ids k x p l) (slice_get-missing_ids j y q m)
        below in
        omega arith,
  )

  -- ---- edges

  -- an edge leads to a node
  pub edges_of-within : (k j : ℕ) → Contains (edges_of g k) j → j < length g.ids
  edges_of-within k j h =
      elim (cases_lt k (length g.edges)) [
        | inl l ↦ All-contains (λ i. i < length g.ids) (edges_of g k) j
            (All-get_or (λ (row : List ℕ). All (λ i. i < length g.ids) row) g.edges k [] l
            is.in_range) h
        | inr l ↦ absurd
            (Contains-nil j (subst (λ (row : List ℕ). Contains row j)
            (is.missing_lead_nowhere k (omega (arith, is.edge_lists, is.committed_nodes))) h))
      ]

  -- and comes from a committed node
  pub edges_of-from_committed : (k j : ℕ) → Contains (edges_of g k) j → k < g.committed
  edges_of-from_committed k j h =
      elim (cases_lt k g.committed) [
        | inl l ↦ l
        | inr l ↦ absurd
            (Contains-nil j (subst (λ (row : List ℕ). Contains row j) (is.missing_lead_nowhere k l)
            h))
      ]

  -- a node has an Id
  pub slice_get-id_of_node : (k : ℕ) → k < length g.ids → (x : Id) × (slice_get g.ids k ≡ Some x)
  slice_get-id_of_node k l = let d : Id = record { replica = 0; number = 0 } in
      (get_or g.ids k d, slice_get-get_or g.ids k d l)

  -- what a node reaches is a node
  pub IsNodePath-within : (k : ℕ) (cs : List ℕ) (j : ℕ) → k < length g.ids
      → IsNodePath (edges_of g) k cs j → j < length g.ids
  IsNodePath-within k [] j l path = subst (λ (i : ℕ). i < length g.ids) path l
  IsNodePath-within k (c ∷ cs) j l path =
      IsNodePath-within c cs j (edges_of-within k c path.0) path.1

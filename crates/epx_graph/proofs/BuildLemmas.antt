-- What is built is the graph of the map.
use Rattle.std.proofs.Common.{◌≡◌, inl, inr, ℕ, ◌-◌, ◌<◌, ◌≤◌, List, [], ◌++◌, length, take, drop}
use Rattle.std.proofs.Common.{replicate, get_or, Some, slice_get, Contains, All, AllPairs, refl}
use Rattle.std.proofs.Common.{sym, ap, subst, ◌∙◌, arith}
use Rattle.epx_types.proofs.Common.{cases_lt, length-append, length-replicate, get_or_append_left}
use Rattle.epx_types.proofs.Common.{get_or-replicate, get_or_past, All-append, All-nil}
use Rattle.epx_types.proofs.Common.{All-from_get_or, All-contains_itself, All-weaker}
use Rattle.epx_types.proofs.Common.{slice_get_within, slice_get-get_or, IsRising, Instance, ids_of}
use Rattle.epx_types.proofs.Common.{DependsOn, Contains-nil, slice_get-from_map, Contains-slice_get}
use Rattle.epx_types.proofs.Common.{DependsOn-listed, DependsOn-committed}
use Rattle.epx_types.specs.declared.id.Id.{Id}
use Rattle.std.proofs.lemmas.List.{get_or-append_right}
use Rattle.std.proofs.lemmas.List.Elements.{All-replicate}
use Rattle.epx_graph.specs.Graphs.{edges_of, IsGraph, graph_over}
use Rattle.epx_graph.specs.GraphOf.{IsGraphOf}
use Rattle.epx_rows.specs.between.Rows.{row_of, AreTransposed}
use Rattle.epx_graph.specs.inner.Nodes.{AreNodesOf, AreRowsOf}
use Rattle.epx_graph.proofs.GraphNodeLemmas.{slice_get-from_committed, ids-is_unique}
use Rattle.epx_graph.proofs.MapNodeLemmas.{length-ids_at_least}
use Rattle.epx_graph.proofs.RisingPositionLemmas.{slice_get-take}

-- appending empty rows changes no row
pub row_of-padded : (rows : List (List ℕ)) (n k : ℕ)
    → row_of (rows ++ replicate n []) k ≡ row_of rows k
row_of-padded rows n k =
    elim (cases_lt k (length rows)) [
      | inl l ↦ get_or_append_left rows (replicate n []) [] k l
      | inr past ↦ get_or-append_right rows (replicate n []) (length rows) k [] refl past
          ∙ none (k - length rows) ∙ sym (get_or_past rows k [] past)
    ]
  where
    none : (i : ℕ) → row_of (replicate n []) i ≡ []
    none i =
        elim (cases_lt i n) [
          | inl l ↦ get_or-replicate n i [] [] l
          | inr past ↦ get_or_past (replicate n []) i []
              (omega (arith, length-replicate {A = List ℕ} n []))
        ]

pub AreTransposed-padded : (rows transpose : List (List ℕ)) (n : ℕ) → AreTransposed rows transpose
    → AreTransposed (rows ++ replicate n []) transpose
AreTransposed-padded rows transpose n is k j = (
  λ h. (is k j).0 (subst (λ (row : List ℕ). Contains row j) (row_of-padded rows n k) h),
  λ h. subst (λ (row : List ℕ). Contains row j) (sym (row_of-padded rows n k)) ((is k j).1 h),
)

module _ (m : List Instance) (ids : List Id) (rows : List (List ℕ)) (nodes : AreNodesOf m ids)
    (are : AreRowsOf m ids rows (length m)) where
  committed_is : take (length rows) ids ≡ ids_of m
  committed_is = ap (λ n. take n ids) are.0 ∙ nodes.committed

  missing_is : drop (length rows) ids ≡ drop (length m) ids
  missing_is = ap (λ n. drop n ids) are.0

  -- the instance of a row
  instance_of_row : (k : ℕ) → k < length rows → (e : Instance) × (slice_get m k ≡ Some e)
  instance_of_row k l = let d : Instance =
      record { id = record { replica = 0; number = 0 }; seq = 0; deps = []; ops = [] } in
      (get_or m k d, slice_get-get_or m k d (omega (arith, are.0)))

  row_in_range : (k : ℕ) → k < length rows → All (λ j. j < length ids) (row_of rows k)
  row_in_range k l =
      let e = instance_of_row k l in
      let row = are.1 k e.0 (omega (arith, are.0)) e.1 in
      All-weaker (Contains (row_of rows k)) (λ j. j < length ids)
      (λ j h. let at = (row.exact j).0 h in slice_get_within ids j at.0 at.2) (row_of rows k)
      (All-contains_itself (row_of rows k))

  no_row : (k : ℕ) → length rows ≤ k → edges_of (graph_over ids rows) k ≡ []
  no_row k l = row_of-padded rows (length ids - length rows) k ∙ get_or_past rows k [] l

  rows_rise : (k : ℕ) → AllPairs (λ i j. i < j) (edges_of (graph_over ids rows) k)
  rows_rise k =
      elim (cases_lt k (length rows)) [
        | inl l ↦
            let e = instance_of_row k l in
            subst (AllPairs (λ i j. i < j)) (sym (row_of-padded rows (length ids - length rows) k))
            (are.1 k e.0 (omega (arith, are.0)) e.1).rising
        | inr past ↦ subst (AllPairs (λ i j. i < j)) (sym (no_row k past))
            (λ i j d l within. absurd (omega arith))
      ]

  pub IsGraph-graph_over : IsGraph (graph_over ids rows)
  IsGraph-graph_over = record {
    edge_lists = omega (
      arith,
      length-append rows (replicate (length ids - length rows) []),
      length-replicate {A = List ℕ} (length ids - length rows) [],
      are.0,
      length-ids_at_least m ids nodes,
    );
    committed_nodes = omega (arith, are.0, length-ids_at_least m ids nodes);
    in_range = All-append (λ (row : List ℕ). All (λ j. j < length ids) row) rows
        (replicate (length ids - length rows) [])
        (All-from_get_or (λ (row : List ℕ). All (λ j. j < length ids) row) rows [] row_in_range)
        (All-replicate (λ (row : List ℕ). All (λ j. j < length ids) row) (length ids - length rows)
        [] (All-nil (λ j. j < length ids)));
    edges_rise = rows_rise;
    missing_lead_nowhere = no_row;
    committed_rise = subst IsRising (sym committed_is) nodes.committed_rise;
    missing_rise = subst IsRising (sym missing_is) nodes.missing.rising;
    apart = λ x h k.
        ((nodes.missing.exact x).0 (subst (λ (l : List Id). Contains l x) missing_is k)).1
        (subst (λ (l : List Id). Contains l x) committed_is h);
  }

  edge_there : (k j : ℕ) (x y : Id) → slice_get ids k ≡ Some x → slice_get ids j ≡ Some y
      → Contains (edges_of (graph_over ids rows) k) j → DependsOn m x y
  edge_there k j x y p q h =
      elim (cases_lt k (length rows)) [
        | inl l ↦
            let at : slice_get (ids_of m) k ≡ Some x =
            ap (λ xs. slice_get xs k) (sym committed_is)
            ∙ slice_get-take ids (length rows) k x l p in
            let e = slice_get-from_map (λ (i : Instance). i.id) m k x at in
            let row = are.1 k e.0 (omega (arith, are.0)) e.1 in
            let number =
            (row.exact j).0 (subst (λ (r : List ℕ). Contains r j)
            (row_of-padded rows (length ids - length rows) k) h) in
            let one : Some number.0 ≡ Some y = sym number.2 ∙ q in
            (e.0, Contains-slice_get m k e.0 e.1, e.2, subst (Contains e.0.deps) (cc one) number.1)
        | inr past ↦ absurd
            (Contains-nil j (subst (λ (r : List ℕ). Contains r j) (no_row k past) h))
      ]

  dep_of_edge : (k j : ℕ) (x y : Id) → slice_get ids k ≡ Some x → slice_get ids j ≡ Some y
      → DependsOn m x y → Contains (edges_of (graph_over ids rows) k) j
  dep_of_edge k j x y p q d =
      let g = graph_over ids rows in
      let found = slice_get-from_committed g IsGraph-graph_over x
      (subst (λ (l : List Id). Contains l x) (sym committed_is)
      (DependsOn-committed m x y d)) in
      let same : found.0 ≡ k = ids-is_unique g IsGraph-graph_over found.0 k x found.2 p in
      let l : k < length rows = omega (arith, found.1) in
      let at : slice_get (ids_of m) k ≡ Some x =
      ap (λ xs. slice_get xs k) (sym committed_is)
      ∙ slice_get-take ids (length rows) k x l p in
      let e = slice_get-from_map (λ (i : Instance). i.id) m k x at in
      let row = are.1 k e.0 (omega (arith, are.0)) e.1 in
      let listed =
      (DependsOn-listed m nodes.committed_rise e.0 (Contains-slice_get m k e.0 e.1) y).0
      (subst (λ (z : Id). DependsOn m z y) (sym e.2) d) in
      subst (λ (r : List ℕ). Contains r j) (sym (row_of-padded rows (length ids - length rows) k))
      ((row.exact j).1 (y, listed, q))

  pub IsGraphOf-graph_over : IsGraphOf m (graph_over ids rows)
  IsGraphOf-graph_over = record {
    graph = IsGraph-graph_over;
    committed = committed_is;
    missing = λ x. (
      λ h. (nodes.missing.exact x).0 (subst (λ (l : List Id). Contains l x) missing_is h),
      λ h. subst (λ (l : List Id). Contains l x) (sym missing_is) ((nodes.missing.exact x).1 h),
    );
    edges = λ k j x y p q. (edge_there k j x y p q, dep_of_edge k j x y p q);
  }

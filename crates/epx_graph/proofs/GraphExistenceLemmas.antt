-- Each committed map has a graph.
use Rattle.std.proofs.Common.{◌≡◌, ◌⊎◌, ◌∙◌, ◌<◌, ℕ, true, List, [], ◌++◌, map, length, take, drop}
use Rattle.std.proofs.Common.{flat_map, Contains, Option, Some, None, slice_get, nat_cmp, Ordering}
use Rattle.std.proofs.Common.{Less, Equal, Greater, is_lt, refl, sym, ap, subst, inl, inr}
use Rattle.epx_types.proofs.Common.{nat_cmp_total, length-map, slice_get_within}
use Rattle.epx_types.proofs.Common.{get_or_from_slice_get, take-append_seam, IsRising, Instance}
use Rattle.epx_types.proofs.Common.{ids_of, IsCommitted, id_cmp-IsTotalOrder}
use Rattle.epx_types.proofs.Common.{id_cmp-IsAntisymmetric}
use Rattle.epx_types.proofs.Common.{Contains-flat_map, Contains-from_flat_map, AllPairs-slice_get}
use Rattle.epx_types.proofs.Common.{AllPairs-from_slice_get, IsRising-from_AllPairs}
use Rattle.epx_types.proofs.Common.{Contains-Id_cases, list_positions, Contains-list_positions}
use Rattle.epx_types.proofs.Common.{negation-cases, AreThose, AreThose-exists}
use Rattle.epx_types.specs.declared.id.Id.{Id}
use Rattle.std.specs.Cmp.{ranked}
use Rattle.std.specs.Ordering.{MatchOrdering}
use Rattle.std.specs.FinMap.{nat_cmp-IsAntisymmetric}
use Rattle.std.proofs.Math.Seq.{drop-append_seam}
use Rattle.epx_types.proofs.lists.ListPositionLemmas.{slice_get-map}
use Rattle.epx_graph.specs.Graphs.{DependencyGraph, graph_over}
use Rattle.epx_graph.specs.GraphOf.{IsGraphOf}
use Rattle.epx_graph.specs.inner.Nodes.{AreMissingIds, AreNodesOf, ArePositionsOf, AreRowsOf}
use Rattle.epx_rows.specs.between.Rows.{row_of}
use Rattle.epx_graph.proofs.BuildLemmas.{IsGraphOf-graph_over}

-- ---- the positions of Ids

less_from_is_lt : (i j : ℕ) → is_lt (nat_cmp i j) ≡ true → i < j
less_from_is_lt i j e = by (nat_cmp i j) (ranked i j (nat_cmp i j) refl) e where
  by : (r : Ordering) → MatchOrdering r (i < j) (i ≡ j) (j < i) → is_lt r ≡ true → i < j
  by Less l e = l
  by Equal l e = absurd (cc e)
  by Greater l e = absurd (cc e)

module _ (ids xs : List Id) where
  -- one of the Ids is at this position
  abbrev IsPositionIn : ℕ → Type 0
  IsPositionIn j = (x : Id) × Contains xs x × (slice_get ids j ≡ Some x)

  IsPositionIn-cases : (j : ℕ) → IsPositionIn j ⊎ (¬ IsPositionIn j)
  IsPositionIn-cases j = by (slice_get ids j) refl where
    by : (o : Option Id) → slice_get ids j ≡ o → IsPositionIn j ⊎ (¬ IsPositionIn j)
    by None e = inr (λ h. let none : None ≡ Some h.0 = sym e ∙ h.2 in absurd (cc none))
    by (Some y) e =
        elim (Contains-Id_cases xs y) [
          | inl there ↦ inl (y, there, e)
          | inr none ↦ inr (λ h. let same : Some h.0 ≡ Some y = sym h.2 ∙ e in
              none (subst (Contains xs) (cc same) h.1))
        ]

  positions : (row : List ℕ) × AreThose nat_cmp_total nat_cmp-IsAntisymmetric IsPositionIn
      (list_positions (length ids)) row
  positions = AreThose-exists nat_cmp_total nat_cmp-IsAntisymmetric IsPositionIn IsPositionIn-cases
      (list_positions (length ids))

  places_are : ArePositionsOf ids xs positions.0
  places_are = record {
    rising = AllPairs-from_slice_get (λ i j. i < j) positions.0
        (λ k n i j l p q. less_from_is_lt i j
        (AllPairs-slice_get (λ i j. is_lt (nat_cmp i j) ≡ true) positions.0
        positions.1.elements_rise k n i j l p q));
    exact = λ j. (
      λ h. (positions.1.elements_only j h).1,
      λ is. positions.1.elements_all j
          (Contains-list_positions (length ids) j (slice_get_within ids j is.0 is.2)) is,
    );
  }

-- ---- the nodes and the rows of a map

module _ (m : List Instance) (rising : IsRising (ids_of m)) where
  missing_instances : (those : List Id) × AreThose id_cmp-IsTotalOrder id_cmp-IsAntisymmetric
      (λ y. ¬ IsCommitted m y) (flat_map (λ e. e.deps) m) those
  missing_instances =
      AreThose-exists id_cmp-IsTotalOrder id_cmp-IsAntisymmetric (λ y. ¬ IsCommitted m y)
      (λ y. negation-cases (Contains-Id_cases (ids_of m) y)) (flat_map (λ e. e.deps) m)

  missing_are : AreMissingIds m missing_instances.0
  missing_are = record {
    rising = IsRising-from_AllPairs missing_instances.0 missing_instances.1.elements_rise;
    exact = λ y. (
      λ h. let was = missing_instances.1.elements_only y h in
          let e = Contains-from_flat_map (λ (e : Instance). e.deps) m y was.0 in
          ((e.0.id, (e.0, e.1, refl, e.2)), was.1),
      λ h. let d = h.0.1 in missing_instances.1.elements_all y
          (Contains-flat_map (λ (e : Instance). e.deps) m d.0 y d.1 d.3) h.1,
    );
  }

  nodes : List Id
  nodes = ids_of m ++ missing_instances.0

  nodes_are : AreNodesOf m nodes
  unfolding nodes
  nodes_are =
      let long : length (ids_of m) ≡ length m = length-map m (λ (e : Instance). e.id) in
      record {
        committed_rise = rising;
        committed = ap (λ n. take n (ids_of m ++ missing_instances.0)) (sym long)
            ∙ take-append_seam (ids_of m) missing_instances.0;
        missing = subst (AreMissingIds m)
            (sym (ap (λ n. drop n (ids_of m ++ missing_instances.0)) (sym long)
            ∙ drop-append_seam (ids_of m) missing_instances.0)) missing_are;
      }

  rows : List (List ℕ)
  rows = map (λ e. (positions nodes e.deps).0) m

  rows_are : AreRowsOf m nodes rows (length m)
  unfolding rows
  rows_are = (
    length-map m (λ (e : Instance). (positions nodes e.deps).0),
    λ k e l at.
        let row : row_of (map (λ e. (positions nodes e.deps).0) m) k ≡ (positions nodes e.deps).0 =
        get_or_from_slice_get (map (λ e. (positions nodes e.deps).0) m) k (positions nodes e.deps).0
        [] (slice_get-map (λ (e : Instance). (positions nodes e.deps).0) m k e at) in
        subst (ArePositionsOf nodes e.deps) (sym row) (places_are nodes e.deps),
  )

  pub IsGraphOf-exists : (g : DependencyGraph) × IsGraphOf m g
  IsGraphOf-exists = (graph_over nodes rows, IsGraphOf-graph_over m nodes rows nodes_are rows_are)

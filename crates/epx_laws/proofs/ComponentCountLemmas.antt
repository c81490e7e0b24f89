-- An execution order has as many components as leaders.
use Rattle.std.proofs.Common.{◌≡◌, ◌≢◌, Bool, true, List, map, filter, length, Contains, AllPairs}
use Rattle.std.proofs.Common.{is_eq, sym, ap, ◌∙◌, subst}
use Rattle.epx_types.proofs.Common.{Equal-is, length-map, AllPairs-filter, id_cmp, Instance, Ranked}
use Rattle.epx_types.proofs.Common.{ranked_ids, IsExecutionOrder, component_count}
use Rattle.epx_types.proofs.Common.{id_cmp-IsTotalOrder}
use Rattle.epx_types.proofs.Common.{id_cmp-IsAntisymmetric, Contains-map, Contains-from_map}
use Rattle.epx_types.proofs.Common.{Contains-filter, Contains-from_filter, passes-from_filter}
use Rattle.epx_types.proofs.Common.{slice_get-from_map, AllPairs-slice_get, AllPairs-from_slice_get}
use Rattle.epx_types.proofs.Common.{IsExecutionOrder-once, IsExecutionOrder-leaders}
use Rattle.epx_types.specs.declared.id.Id.{Id}
use Rattle.std.specs.Cmp.{tied_itself}
use Rattle.std.proofs.lemmas.List.Sums.{length-filter}
use Rattle.epx_types.proofs.lists.ListPositionLemmas.{slice_get-map}

abbrev pub leads : Ranked → Bool
leads r = is_eq (id_cmp r.id r.leader)

-- the leaders in an execution order
unfoldable pub leaders_of : List Ranked → List Id
leaders_of order = map (λ r. r.id) (filter leads order)

-- there are as many of them as components
pub length-leaders_of : (order : List Ranked) → length (leaders_of order) ≡ component_count order
unfolding leaders_of
length-leaders_of order = length-map (filter leads order) (λ (r : Ranked). r.id)
    ∙ length-filter leads order

module _ (m : List Instance) (order : List Ranked) (h : IsExecutionOrder m order) where
  apart : AllPairs (λ a b. a.id ≢ b.id) order
  apart = AllPairs-from_slice_get (λ a b. a.id ≢ b.id) order (λ i j a b l p q.
      AllPairs-slice_get (λ x y. x ≢ y) (ranked_ids order) (IsExecutionOrder-once m order h) i j
      a.id b.id l (slice_get-map (λ (r : Ranked). r.id) order i a p)
      (slice_get-map (λ (r : Ranked). r.id) order j b q))

  -- each occurs once
  pub AllPairs-leaders_of : AllPairs (λ x y. x ≢ y) (leaders_of order)
  unfolding leaders_of
  AllPairs-leaders_of = AllPairs-from_slice_get (λ x y. x ≢ y)
      (map (λ r. r.id) (filter leads order)) (λ i j x y l p q.
      let a = slice_get-from_map (λ (r : Ranked). r.id) (filter leads order) i x p in
      let b = slice_get-from_map (λ (r : Ranked). r.id) (filter leads order) j y q in
      let other = AllPairs-slice_get (λ a b. a.id ≢ b.id) (filter leads order)
      (AllPairs-filter (λ a b. a.id ≢ b.id) leads order apart) i j a.0 b.0 l a.1 b.1 in
      λ e. other (a.2 ∙ e ∙ sym b.2))

  -- each is the leader of some instance of the order
  pub leaders_of-lead : (x : Id) → Contains (leaders_of order) x
      → (r : Ranked) × Contains order r × (r.leader ≡ x)
  unfolding leaders_of
  leaders_of-lead x in_leaders =
      let r = Contains-from_map (λ (r : Ranked). r.id) (filter leads order) x in_leaders in
      let passes = passes-from_filter leads order r.0 r.1 in (
        r.0,
        Contains-from_filter leads order r.0 r.1,
        sym (id_cmp-IsAntisymmetric r.0.id r.0.leader
            ((Equal-is (id_cmp r.0.id r.0.leader)).0 passes)) ∙ r.2,
      )

  -- and each leader is among them
  pub Contains-leaders_of : (r : Ranked) → Contains order r → Contains (leaders_of order) r.leader
  unfolding leaders_of
  Contains-leaders_of r in_order =
      let l = IsExecutionOrder-leaders m order h r in_order in
      let passes : leads l.0 ≡ true = ap (λ x. is_eq (id_cmp l.0.id x)) l.3
      ∙ ap is_eq (tied_itself id_cmp-IsTotalOrder l.0.id) in
      subst (Contains (map (λ r. r.id) (filter leads order))) l.2
      (Contains-map (λ (r : Ranked). r.id) (filter leads order) l.0
      (Contains-filter leads order l.0 l.1 passes))

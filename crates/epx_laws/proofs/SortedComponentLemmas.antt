-- The components of an execution order, each with its members in that order, are sorted.
use Rattle.std.proofs.Common.{◌≡◌, ◌≢◌, ◌<◌, ◌∙◌, ℕ, Bool, true, List, map, filter, Contains}
use Rattle.std.proofs.Common.{AllPairs, Some, slice_get, sym, ap, ap₂, subst, subst₂, inl, inr}
use Rattle.std.proofs.Common.{is_lt, nat_cmp, Equal}
use Rattle.epx_types.proofs.Common.{is_eq, ordering_then, Equal-is, nat_cmp_total, AllPairs-filter}
use Rattle.epx_types.proofs.Common.{id_cmp, IsRising, Instance, ids_of, InOneComponent, IsLeader}
use Rattle.epx_types.proofs.Common.{Ranked, RanksBelow, IsExecutionOrder, ranked_ids, Before}
use Rattle.epx_types.proofs.Common.{SequenceBefore, IsLawful, Reaches, IsReady, Reaches-cases}
use Rattle.epx_types.proofs.Common.{IsLeader-along, IsLeader-unique, Reaches-trans}
use Rattle.epx_types.proofs.Common.{InOneComponent-symm, InOneComponent-trans, IsDepth-along}
use Rattle.epx_types.proofs.Common.{IsDepth-unique, id_cmp-IsTotalOrder, id_cmp-IsAntisymmetric}
use Rattle.epx_types.proofs.Common.{AllPairs-from_slice_get, AllPairs-slice_get, Contains-slice_get}
use Rattle.epx_types.proofs.Common.{slice_get-from_map, Contains-filter, Contains-from_filter}
use Rattle.epx_types.proofs.Common.{Contains-map, Contains-from_map, Contains-flat_map}
use Rattle.epx_types.proofs.Common.{Contains-from_flat_map, passes-from_filter, Before-from_rank}
use Rattle.epx_types.proofs.Common.{IsExecutionOrder-IsLawful, IsExecutionOrder-ranked}
use Rattle.epx_types.proofs.Common.{Before-differ, Before-in_first, Before-not_both}
use Rattle.epx_types.proofs.Common.{IsExecutionOrder-exists}
use Rattle.epx_types.specs.declared.id.Id.{Id}
use Rattle.std.specs.Cmp.{tied_itself}
use Rattle.epx_laws.specs.AlgorithmLaws.{all_members, AreSortedComponents}
use Rattle.epx_laws.proofs.ComponentCountLemmas.{leads, leaders_of, leaders_of-lead}
use Rattle.epx_laws.proofs.ComponentCountLemmas.{Contains-leaders_of}

module _ (m : List Instance) (order : List Ranked) (h : IsExecutionOrder m order) where
  lawful : IsLawful m (ranked_ids order)
  lawful = IsExecutionOrder-IsLawful m order h

  abbrev led_by : Id → Ranked → Bool
  led_by l r = is_eq (id_cmp r.leader l)

  -- the members that have this leader
  abbrev component : Id → List Id
  component l = map (λ r. r.id) (filter (led_by l) order)

  -- a component for each leader
  abbrev components : List (List Id)
  components = map component (leaders_of order)

  -- a member has its rank in the order
  in_component : (l x : Id) → Contains (component l) x
      → (r : Ranked) × Contains order r × (r.id ≡ x) × (r.leader ≡ l)
  in_component l x in_l =
      let r = Contains-from_map (λ (r : Ranked). r.id) (filter (led_by l) order) x in_l in (
        r.0,
        Contains-from_filter (led_by l) order r.0 r.1,
        r.2,
        id_cmp-IsAntisymmetric r.0.leader l ((Equal-is (id_cmp r.0.leader l)).0
            (passes-from_filter (led_by l) order r.0 r.1)),
      )

  -- and is in one component with its leader
  with_leader : (l x : Id) → Contains (component l) x → InOneComponent m x l
  with_leader l x in_l = let r = in_component l x in_l in
      subst₂ (InOneComponent m) r.2 r.3 (h.ranked r.0 r.1).leader.member

  own_leader : (l : Id) → Contains (leaders_of order) l → IsLeader m l l
  own_leader l in_leaders =
      let r = leaders_of-lead m order h l in_leaders in
      let leader : IsLeader m r.0.id l = subst (IsLeader m r.0.id) r.2 (h.ranked r.0 r.1).leader in
      IsLeader-along m r.0.id l l leader.member leader

  -- members of one component come by sequence number, since they have the same depth and leader
  by_sequence : (r s : Ranked) → Contains order r → Contains order s → RanksBelow r s
      → InOneComponent m r.id s.id → SequenceBefore m r.id s.id
  by_sequence r s in_r in_s below one =
      let a = h.ranked r in_r in
      let b = h.ranked s in_s in
      let d = Contains-from_map (λ (e : Instance). e.id) m r.id a.ready.committed in
      let e = Contains-from_map (λ (e : Instance). e.id) m s.id b.ready.committed in
      let depth = IsDepth-unique m s.id r.depth s.depth
      (IsDepth-along m r.id s.id r.depth one a.depth) b.depth in
      let leader = IsLeader-unique m s.id r.leader s.leader
      (IsLeader-along m r.id s.id r.leader one a.leader) b.leader in
      let rest = ordering_then (nat_cmp r.seq s.seq) (id_cmp r.id s.id) in
      let same_depth : nat_cmp r.depth s.depth ≡ Equal =
      ap (nat_cmp r.depth) (sym depth) ∙ tied_itself nat_cmp_total r.depth in
      let same_leader : id_cmp r.leader s.leader ≡ Equal =
      ap (id_cmp r.leader) (sym leader) ∙ tied_itself id_cmp-IsTotalOrder r.leader in
      record {
        first = d.0;
        second = e.0;
        first_in = d.1;
        first_is = d.2;
        second_in = e.1;
        second_is = e.2;
        lower = ap₂ (λ j k. is_lt (ordering_then (nat_cmp j k) (id_cmp r.id s.id)))
            (a.seq d.0 d.1 d.2) (b.seq e.0 e.1 e.2)
            ∙ sym (ap₂ (λ o p. is_lt (ordering_then o (ordering_then p rest))) same_depth
            same_leader)
            ∙ below;
      }

  -- a leader reaches no later one
  not_later : (l k : Id) → Contains (leaders_of order) l → Contains (leaders_of order) k
      → Before (ranked_ids order) l k → ¬ Reaches m l k
  not_later l k in_l in_k before there =
      elim (Reaches-cases m k l) [
        | inl back ↦ Before-differ (ranked_ids order) lawful.once l k before
            (IsLeader-unique m k l k
            (IsLeader-along m l k l (there, back) (own_leader l in_l)) (own_leader k in_k))
        | inr not_back ↦
            Before-not_both (ranked_ids order) lawful.once l k before
            (lawful.after_reached l k (Before-in_first (ranked_ids order) l k before) there
            not_back)
      ]

  to_members : (x : Id) → IsReady m x → Contains (all_members components) x
  to_members x ready =
      let r = IsExecutionOrder-ranked m order h x ready in
      let passes : led_by r.0.leader r.0 ≡ true =
      ap is_eq (tied_itself id_cmp-IsTotalOrder r.0.leader) in
      Contains-flat_map (λ (c : List Id). c) components (component r.0.leader) x
      (Contains-map component (leaders_of order) r.0.leader
      (Contains-leaders_of m order h r.0 r.1))
      (subst (Contains (component r.0.leader)) r.2
      (Contains-map (λ (r : Ranked). r.id) (filter (led_by r.0.leader) order) r.0
      (Contains-filter (led_by r.0.leader) order r.0 r.1 passes)))

  from_members : (x : Id) → Contains (all_members components) x → IsReady m x
  from_members x in_x =
      let c = Contains-from_flat_map (λ (c : List Id). c) components x in_x in
      let l = Contains-from_map component (leaders_of order) c.0 c.1 in
      let r = in_component l.0 x (subst (λ (c : List Id). Contains c x) (sym l.2) c.2) in
      subst (IsReady m) r.2 (h.ranked r.0 r.1).ready

  leaders_before : (i j : ℕ) (l k : Id) → i < j → slice_get (leaders_of order) i ≡ Some l
      → slice_get (leaders_of order) j ≡ Some k → Before (ranked_ids order) l k
  unfolding leaders_of
  leaders_before i j l k less at_l at_k =
      let a = slice_get-from_map (λ (r : Ranked). r.id) (filter leads order) i l at_l in
      let b = slice_get-from_map (λ (r : Ranked). r.id) (filter leads order) j k at_k in
      let lower = AllPairs-slice_get RanksBelow (filter leads order)
      (AllPairs-filter RanksBelow leads order h.rising) i j a.0 b.0 less a.1 b.1 in
      subst₂ (Before (ranked_ids order)) a.2 b.2
      (Before-from_rank order h.rising a.0 b.0
      (Contains-from_filter leads order a.0 (Contains-slice_get (filter leads order) i a.0 a.1))
      (Contains-from_filter leads order b.0 (Contains-slice_get (filter leads order) j b.0 b.1))
      lower)

  sorted_by : (l : Id) → AllPairs (SequenceBefore m) (component l)
  sorted_by l = AllPairs-from_slice_get (SequenceBefore m) (component l)
      (λ i j x y less at_x at_y.
      let r = slice_get-from_map (λ (r : Ranked). r.id) (filter (led_by l) order) i x at_x in
      let s = slice_get-from_map (λ (r : Ranked). r.id) (filter (led_by l) order) j y at_y in
      let of_x = with_leader l x (Contains-slice_get (component l) i x at_x) in
      let of_y = with_leader l y (Contains-slice_get (component l) j y at_y) in
      subst₂ (SequenceBefore m) r.2 s.2
      (by_sequence r.0 s.0
      (Contains-from_filter (led_by l) order r.0
      (Contains-slice_get (filter (led_by l) order) i r.0 r.1))
      (Contains-from_filter (led_by l) order s.0
      (Contains-slice_get (filter (led_by l) order) j s.0 s.1))
      (AllPairs-slice_get RanksBelow (filter (led_by l) order)
      (AllPairs-filter RanksBelow (led_by l) order h.rising) i j r.0 s.0 less r.1 s.1)
      (subst₂ (InOneComponent m) (sym r.2) (sym s.2)
      (InOneComponent-trans m x l y of_x (InOneComponent-symm m y l of_y)))))

  pub AreSortedComponents-order : AreSortedComponents m components
  AreSortedComponents-order = record {
    members = λ x. (from_members x, to_members x);
    together = λ c in_c x y in_x in_y.
        let l = Contains-from_map component (leaders_of order) c in_c in
        let of_x = with_leader l.0 x (subst (λ (c : List Id). Contains c x) (sym l.2) in_x) in
        let of_y = with_leader l.0 y (subst (λ (c : List Id). Contains c y) (sym l.2) in_y) in
        InOneComponent-trans m x l.0 y of_x (InOneComponent-symm m y l.0 of_y);
    reached_first = AllPairs-from_slice_get
        (λ c d. (x y : Id) → Contains c x → Contains d y → ¬ Reaches m x y) components
        (λ i j c d less at_c at_d x y in_x in_y there.
        let l = slice_get-from_map component (leaders_of order) i c at_c in
        let k = slice_get-from_map component (leaders_of order) j d at_d in
        let of_x = with_leader l.0 x (subst (λ (c : List Id). Contains c x) (sym l.2) in_x) in
        let of_y = with_leader k.0 y (subst (λ (c : List Id). Contains c y) (sym k.2) in_y) in
        not_later l.0 k.0 (Contains-slice_get (leaders_of order) i l.0 l.1)
        (Contains-slice_get (leaders_of order) j k.0 k.1)
        (leaders_before i j l.0 k.0 less l.1 k.1)
        (Reaches-trans m l.0 x k.0 of_x.1 (Reaches-trans m x y k.0 there of_y.0)));
    by_sequence = λ c in_c.
        let l = Contains-from_map component (leaders_of order) c in_c in
        subst (AllPairs (SequenceBefore m)) l.2 (sorted_by l.0);
  }

pub AreSortedComponents-exists : (m : List Instance) → IsRising (ids_of m)
    → (components : List (List Id)) × AreSortedComponents m components
AreSortedComponents-exists m rising =
    let order = IsExecutionOrder-exists m rising in
    (components m order.0 order.1, AreSortedComponents-order m order.0 order.1)

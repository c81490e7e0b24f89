-- The remaining map of other logs has the readiness, the components and the order of the whole
-- map.
use Rattle.std.proofs.Common.{◌≡◌, ◌⊎◌, List, Contains, sym, ap, ◌∙◌, subst, inl, inr}
use Rattle.epx_types.specs.declared.id.Id.{Id}
use Rattle.epx_types.specs.Ids.{IsRising}
use Rattle.epx_types.specs.Instances.{Instance}
use Rattle.epx_types.specs.CommittedMap.{ids_of, instance_of, ops_or_empty, commands_in}
use Rattle.epx_types.specs.CommittedMap.{IsCommitted}
use Rattle.epx_types.specs.Reaching.{DependsOn, Reaches}
use Rattle.epx_types.specs.Readiness.{IsReady}
use Rattle.epx_types.specs.Components.{InOneComponent}
use Rattle.epx_types.specs.Done.{without_deps, remaining}
use Rattle.epx_types.specs.Sound.{HasRemaining}
use Rattle.epx_types.specs.LawfulOrders.{Before, SequenceBefore, IsLawful}
use Rattle.epx_types.proofs.lists.MembershipLemmas.{Contains-from_map, map-agree}
use Rattle.epx_types.proofs.committed.AgreementLemmas.{IsRising-same, instance_of-found}
use Rattle.epx_types.proofs.committed.AgreementLemmas.{instance_of-finds, instance_of-iff_contains}
use Rattle.epx_types.proofs.graph.DependencyLemmas.{IsCommitted-from_Contains}
use Rattle.epx_types.proofs.graph.ReachingLemmas.{Reaches-refl, Reaches-trans, Reaches-dependency}
use Rattle.epx_types.proofs.graph.ReachingLemmas.{Reaches-passes, IsReady-reached}
use Rattle.epx_types.proofs.graph.WaitingLemmas.{Contains-Id_cases}
use Rattle.epx_types.proofs.remaining.RemainingLemmas.{Contains-remaining_iff, DependsOn-remaining}
use Rattle.epx_types.proofs.remaining.RemainingLemmas.{remaining-from_map, is_among-excludes}
use Rattle.epx_types.proofs.orders.LawfulPartLemmas.{IsClosed, IsLawfulAfter}

module _ (m other : List Instance) (done : List Id) (rising : IsRising (ids_of m))
    (ready : (x : Id) → Contains done x → IsReady m x) (closed : IsClosed m (Contains done))
    (has : HasRemaining m done other) where
  -- the remaining map
  abbrev left : List Instance
  left = remaining done other

  not_done_left : (x : Id) → IsCommitted left x → ¬ Contains done x
  not_done_left x h = ((Contains-remaining_iff done other x).0 h).1

  -- a remaining instance is an instance of m without its done dependencies
  of_left : (e : Instance) → Contains left e
      → (d : Instance) × Contains m d × (without_deps done d ≡ e)
  of_left e h =
      let d = remaining-from_map done other e h in
      (d.0, has d.0 d.1 (is_among-excludes done d.0.id d.2), d.3)

  instance_left : (x : Id) → IsCommitted left x
      → (d : Instance) × Contains m d × (d.id ≡ x) × Contains left (without_deps done d)
  instance_left x h =
      let e = Contains-from_map (λ (e : Instance). e.id) left x h in
      let d = of_left e.0 e.1 in
      (d.0, d.1, ap (λ i. i.id) d.2 ∙ e.2, subst (Contains left) (sym d.2) e.1)

  -- ---- dependencies and reaching

  DependsOn-in_whole : (x y : Id) → DependsOn left x y → DependsOn m x y
  DependsOn-in_whole x y d =
      let parts = (DependsOn-remaining done other x y).0 d in
      let e = parts.0 in
      (e.0, has e.0 e.1 (λ h. parts.1 (subst (Contains done) e.2 h)), e.2, e.3)

  DependsOn-left : (x y : Id) → IsCommitted left x → ¬ Contains done y → DependsOn m x y
      → DependsOn left x y
  DependsOn-left x y committed y_left (e, in_e, is, listed) =
      let parts = (Contains-remaining_iff done other x).0 committed in
      let d = Contains-from_map (λ (e : Instance). e.id) other x parts.0 in
      let in_d = has d.0 d.1 (λ h. parts.1 (subst (Contains done) d.2 h)) in
      let same = IsRising-same m rising e d.0 in_e in_d (is ∙ sym d.2) in
      (DependsOn-remaining done other x y).1 (
        (d.0, d.1, d.2, subst (λ (i : Instance). Contains i.deps y) same listed),
        parts.1,
        y_left,
      )

  -- reaching in the remaining map is reaching in the whole
  Reaches-in_whole : (x y : Id) → Reaches left x y → Reaches m x y
  Reaches-in_whole x y there = Reaches-passes left (Reaches m x)
      (λ v w d on. Reaches-trans m x v w on (Reaches-dependency m v w (DependsOn-in_whole v w d)))
      x y there (Reaches-refl m x)

  -- what a ready remaining instance reaches in the whole is done, or is reached in the remaining
  -- map
  reached_or_done : (x y : Id) → IsReady left x → Reaches m x y
      → Contains done y ⊎ Reaches left x y
  reached_or_done x y x_ready there = Reaches-passes m (λ z. Contains done z ⊎ Reaches left x z)
      step x y there (inr (Reaches-refl left x)) where
        step : (v w : Id) → DependsOn m v w → Contains done v ⊎ Reaches left x v
            → Contains done w ⊎ Reaches left x w
        step v w d (inl is_done) = inl (closed v w is_done (Reaches-dependency m v w d))
        step v w d (inr on) =
            elim (Contains-Id_cases done w) [
              | inl is_done ↦ inl is_done
              | inr w_left ↦ inr (Reaches-trans left x v w on
                  (Reaches-dependency left v w
                  (DependsOn-left v w (x_ready.complete v on) w_left d)))
            ]

  Reaches-left : (x y : Id) → IsReady left x → ¬ Contains done y → Reaches m x y → Reaches left x y
  Reaches-left x y x_ready y_left there =
      elim (reached_or_done x y x_ready there) [
        | inl is_done ↦ absurd (y_left is_done)
        | inr on ↦ on
      ]

  -- ---- readiness and components

  IsCommitted-in_whole : (x : Id) → IsCommitted left x → IsCommitted m x
  IsCommitted-in_whole x h = let d = instance_left x h in
      subst (IsCommitted m) d.2 (IsCommitted-from_Contains m d.0 d.1)

  -- a ready remaining instance is ready in the whole
  pub IsReady-in_whole : (x : Id) → IsReady left x → IsReady m x
  IsReady-in_whole x x_ready = record {
    committed = IsCommitted-in_whole x x_ready.committed;
    complete = λ y there. elim (reached_or_done x y x_ready there) [
      | inl is_done ↦ (ready y is_done).committed
      | inr on ↦ IsCommitted-in_whole y (x_ready.complete y on)
    ];
  }

  -- the ready remaining instances and the done ones include all that they reach
  pub IsReady-closed : IsClosed m (λ x. Contains done x ⊎ IsReady left x)
  IsReady-closed x y (inl is_done) there = inl (closed x y is_done there)
  IsReady-closed x y (inr x_ready) there =
      elim (reached_or_done x y x_ready there) [
        | inl is_done ↦ inl is_done
        | inr on ↦ inr (IsReady-reached left x y on x_ready)
      ]

  IsCommitted-left : HasRemaining other done m → (x : Id) → IsCommitted m x → ¬ Contains done x
      → IsCommitted left x
  IsCommitted-left all x committed x_left =
      let e = Contains-from_map (λ (e : Instance). e.id) m x committed in
      let in_other = all e.0 e.1 (λ h. x_left (subst (Contains done) e.2 h)) in
      (Contains-remaining_iff done other x).1
      (subst (IsCommitted other) e.2 (IsCommitted-from_Contains other e.0 in_other), x_left)

  -- if all of m that is not done remains, an instance that is ready in the whole and not done is
  -- ready in the remaining map
  pub IsReady-left : HasRemaining other done m → (x : Id) → IsReady m x → ¬ Contains done x
      → IsReady left x
  IsReady-left all x x_ready x_left = record {
    committed = IsCommitted-left all x x_ready.committed x_left;
    complete = λ y there. IsCommitted-left all y (x_ready.complete y (Reaches-in_whole x y there))
        (Reaches-passes left (λ z. ¬ Contains done z)
        (λ v w d v_left. ((DependsOn-remaining done other v w).0 d).2) x y there x_left);
  }

  -- a component remains whole
  InOneComponent-left : (x y : Id) → IsReady left x → IsReady left y → InOneComponent m x y
      → InOneComponent left x y
  InOneComponent-left x y x_ready y_ready one = (
    Reaches-left x y x_ready (not_done_left y y_ready.committed) one.0,
    Reaches-left y x y_ready (not_done_left x x_ready.committed) one.1,
  )

  SequenceBefore-left : (x y : Id) → IsCommitted left x → IsCommitted left y → SequenceBefore m x y
      → SequenceBefore left x y
  SequenceBefore-left x y x_left y_left by =
      let c = instance_left x x_left in
      let f = instance_left y y_left in
      let same_first =
      IsRising-same m rising c.0 by.first c.1 by.first_in (c.2 ∙ sym by.first_is) in
      let same_second =
      IsRising-same m rising f.0 by.second f.1 by.second_in (f.2 ∙ sym by.second_is) in record {
        first = without_deps done by.first;
        second = without_deps done by.second;
        first_in = subst (λ i. Contains left (without_deps done i)) same_first c.3;
        first_is = by.first_is;
        second_in = subst (λ i. Contains left (without_deps done i)) same_second f.3;
        second_is = by.second_is;
        lower = by.lower;
      }

  -- ---- orders and commands

  module _ (ids : List Id) (lawful : IsLawful left ids) where
    left_after_reached : (x y : Id) → Contains ids x → Reaches m x y → ¬ Reaches m y x
        → Contains done y ⊎ Before ids y x
    left_after_reached x y h there not_back =
        elim (reached_or_done x y (lawful.only x h) there) [
          | inl is_done ↦ inl is_done
          | inr on ↦ inr (lawful.after_reached x y h on
              (λ back. not_back (Reaches-in_whole y x back)))
        ]

    left_by_sequence : (x y : Id) → Contains ids x → Contains ids y → InOneComponent m x y
        → SequenceBefore m x y → Before ids x y
    left_by_sequence x y h k one lower =
        let x_ready = lawful.only x h in
        let y_ready = lawful.only y k in
        lawful.by_sequence x y h k (InOneComponent-left x y x_ready y_ready one)
        (SequenceBefore-left x y x_ready.committed y_ready.committed lower)

    -- a lawful order of the remaining map is lawful after the done instances
    pub IsLawfulAfter-left : IsLawfulAfter m (Contains done) (IsReady left) ids
    IsLawfulAfter-left = record {
      once = lawful.once;
      only = lawful.only;
      whole = lawful.whole;
      apart = λ x x_ready. not_done_left x x_ready.committed;
      after_reached = left_after_reached;
      by_sequence = left_by_sequence;
    }

    same_ops : (x : Id) → IsCommitted left x
        → ops_or_empty (instance_of left x) ≡ ops_or_empty (instance_of m x)
    same_ops x committed =
        let e = Contains-from_map (λ (e : Instance). e.id) left x committed in
        let found = instance_of-finds left e.0 e.1 in
        let known = instance_of-found left e.0.id found.0 found.1 in
        let d = of_left found.0 known.0 in
        let is : d.0.id ≡ x = ap (λ i. i.id) d.2 ∙ known.1 ∙ e.2 in
        ap (λ y. ops_or_empty (instance_of left y)) (sym e.2) ∙ ap ops_or_empty found.1
        ∙ ap (λ i. i.ops) (sym d.2) ∙ ap ops_or_empty
        (sym ((instance_of-iff_contains m rising x d.0).1 (d.1, is)))

    -- its commands are those of the whole map
    pub commands_in-left : commands_in left ids ≡ commands_in m ids
    commands_in-left = map-agree (λ x. ops_or_empty (instance_of left x))
        (λ x. ops_or_empty (instance_of m x)) ids (λ x h. same_ops x (lawful.only x h).committed)

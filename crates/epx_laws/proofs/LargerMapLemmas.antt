-- What is ready and lawful in a map is so in every map that contains it, with the same commands.
use Rattle.std.proofs.Common.{◌≡◌, ◌∙◌, List, Contains, sym, ap, subst}
use Rattle.epx_types.proofs.Common.{IsRising, Instance, ids_of, instance_of, ops_or_empty}
use Rattle.epx_types.proofs.Common.{commands_in, IsCommitted, DependsOn, Reaches, IsReady}
use Rattle.epx_types.proofs.Common.{SequenceBefore, IsLawfulFor, IsLawful, IsRising-same}
use Rattle.epx_types.proofs.Common.{instance_of-iff_contains, instance_of-found, instance_of-finds}
use Rattle.epx_types.proofs.Common.{IsCommitted-from_Contains, Contains-from_map, map-agree}
use Rattle.epx_types.proofs.Common.{Reaches-refl, Reaches-trans, Reaches-dependency, Reaches-passes}
use Rattle.epx_types.specs.declared.id.Id.{Id}

module _ (m more : List Instance) (rising : IsRising (ids_of more))
    (within : (e : Instance) → Contains m e → Contains more e) where
  instance_in : (x : Id) → IsCommitted m x → (e : Instance) × Contains m e × (e.id ≡ x)
  instance_in x h = Contains-from_map (λ (e : Instance). e.id) m x h

  IsCommitted-in_more : (x : Id) → IsCommitted m x → IsCommitted more x
  IsCommitted-in_more x h = let e = instance_in x h in
      subst (IsCommitted more) e.2 (IsCommitted-from_Contains more e.0 (within e.0 e.1))

  Reaches-in_more : (x y : Id) → Reaches m x y → Reaches more x y
  Reaches-in_more x y there =
      Reaches-passes m (Reaches more x)
      (λ v w d on. Reaches-trans more x v w on
      (Reaches-dependency more v w (d.0, within d.0 d.1, d.2, d.3))) x y there
      (Reaches-refl more x)

  DependsOn-in_less : (x y : Id) → IsCommitted m x → DependsOn more x y → DependsOn m x y
  DependsOn-in_less x y committed (e, in_e, is, listed) =
      let d = instance_in x committed in
      let same = IsRising-same more rising e d.0 in_e (within d.0 d.1) (is ∙ sym d.2) in
      (d.0, d.1, d.2, subst (λ (i : Instance). Contains i.deps y) same listed)

  -- a ready instance reaches in the greater map only what it reaches in the lesser
  pub Reaches-in_less : (x y : Id) → IsReady m x → Reaches more x y → Reaches m x y
  Reaches-in_less x y ready there =
      Reaches-passes more (Reaches m x)
      (λ v w d on. Reaches-trans m x v w on
      (Reaches-dependency m v w (DependsOn-in_less v w (ready.complete v on) d))) x y there
      (Reaches-refl m x)

  pub IsReady-in_more : (x : Id) → IsReady m x → IsReady more x
  IsReady-in_more x ready = record {
    committed = IsCommitted-in_more x ready.committed;
    complete = λ y there. IsCommitted-in_more y
        (ready.complete y (Reaches-in_less x y ready there));
  }

  SequenceBefore-in_less : (x y : Id) → IsCommitted m x → IsCommitted m y → SequenceBefore more x y
      → SequenceBefore m x y
  SequenceBefore-in_less x y x_in y_in by =
      let c = instance_in x x_in in
      let f = instance_in y y_in in
      let same_first = IsRising-same more rising c.0 by.first (within c.0 c.1) by.first_in
      (c.2 ∙ sym by.first_is) in
      let same_second = IsRising-same more rising f.0 by.second (within f.0 f.1) by.second_in
      (f.2 ∙ sym by.second_is) in record {
        first = by.first;
        second = by.second;
        first_in = subst (Contains m) same_first c.1;
        first_is = by.first_is;
        second_in = subst (Contains m) same_second f.1;
        second_is = by.second_is;
        lower = by.lower;
      }

  same_ops : (x : Id) → IsCommitted m x
      → ops_or_empty (instance_of m x) ≡ ops_or_empty (instance_of more x)
  same_ops x committed =
      let e = instance_in x committed in
      let found = instance_of-finds m e.0 e.1 in
      let known = instance_of-found m e.0.id found.0 found.1 in
      ap (λ y. ops_or_empty (instance_of m y)) (sym e.2)
      ∙ ap ops_or_empty
      (found.1 ∙ sym ((instance_of-iff_contains more rising x found.0).1
      (within found.0 known.0, known.1 ∙ e.2)))

  -- committed instances have the same commands in both
  pub commands-in_more : (ids : List Id) → ((x : Id) → Contains ids x → IsCommitted m x)
      → commands_in m ids ≡ commands_in more ids
  commands-in_more ids committed = map-agree (λ x. ops_or_empty (instance_of m x))
      (λ x. ops_or_empty (instance_of more x)) ids (λ x h. same_ops x (committed x h))

  pub IsLawfulFor-in_more : (ids : List Id) → IsLawful m ids → IsLawfulFor more (IsReady m) ids
  IsLawfulFor-in_more ids lawful = record {
    once = lawful.once;
    only = lawful.only;
    whole = lawful.whole;
    after_reached = λ x y h there not_back. lawful.after_reached x y h
        (Reaches-in_less x y (lawful.only x h) there)
        (λ back. not_back (Reaches-in_more y x back));
    by_sequence = λ x y h k one lower.
        let x_ready = lawful.only x h in
        let y_ready = lawful.only y k in
        lawful.by_sequence x y h k (
          Reaches-in_less x y x_ready one.0,
          Reaches-in_less y x y_ready one.1,
        )
        (SequenceBefore-in_less x y x_ready.committed y_ready.committed lower);
  }

-- A part of a map: what its instances reach, which of them are ready, their order and commands.
use Rattle.std.proofs.Common.{◌≡◌, ◌↔◌, List, [], ◌∷◌, not, Contains, sym, ap, ◌∙◌, subst, inl, inr}
use Rattle.epx_types.proofs.Common.{IsRising, Instance, ids_of, instance_of, ops_or_empty}
use Rattle.epx_types.proofs.Common.{commands_in, IsCommitted, is_among, without_deps, remaining}
use Rattle.epx_types.proofs.Common.{DependsOn, IsPath, Reaches, IsReady, InOneComponent, Descends}
use Rattle.epx_types.proofs.Common.{Ranked, IsRanked, IsExecutionOrder, IsRising-same}
use Rattle.epx_types.proofs.Common.{instance_of-found, instance_of-finds, instance_of-iff_contains}
use Rattle.epx_types.proofs.Common.{IsCommitted-from_Contains, Reaches-refl, Reaches-trans}
use Rattle.epx_types.proofs.Common.{Reaches-dependency, Reaches-passes, IsReady-reached}
use Rattle.epx_types.proofs.Common.{Contains-map, Contains-from_map, Contains-filter, map-agree}
use Rattle.epx_types.proofs.Common.{DependsOn-remaining, remaining-from_map}
use Rattle.epx_types.specs.declared.id.Id.{Id}
use Rattle.epx_executor.specs.Commits.{not_done}

-- ---- paths of a part

-- what an instance reaches in a part of a map it reaches in the map
pub Reaches-more : (part m : List Instance) → ((e : Instance) → Contains part e → Contains m e)
    → (x y : Id) → Reaches part x y → Reaches m x y
Reaches-more part m within x y there =
    Reaches-passes part (Reaches m x)
    (λ v w d on. Reaches-trans m x v w on (Reaches-dependency m v w (more v w d)))
    x y there (Reaches-refl m x)
  where
    more : (v w : Id) → DependsOn part v w → DependsOn m v w
    more v w (e, in_e, is, listed) = (e, within e in_e, is, listed)

-- ---- what remains

-- what remains of a part is a part of what remains
pub remaining-part : (done : List Id) (m part : List Instance)
    → ((e : Instance) → Contains part e → Contains m e)
    → (e : Instance) → Contains (remaining done part) e → Contains (remaining done m) e
remaining-part done m part within e h =
    let d = remaining-from_map done part e h in
    subst (Contains (remaining done m)) d.3
    (Contains-map (without_deps done) (not_done done m) d.0
    (Contains-filter (λ (i : Instance). not (is_among done i.id)) m d.0 (within d.0 d.1)
    (ap not d.2)))

-- a path to an instance that is not ready leads through none that is
module _ (m : List Instance) (ids : List Id)
    (ready : (x : Id) → Contains ids x → IsReady m x) where
  not_among_ids : (x y : Id) → Reaches m x y → ¬ IsReady m y → ¬ Contains ids x
  not_among_ids x y there not_ready h = not_ready (IsReady-reached m x y there (ready x h))

  IsPath-left : (x : Id) (via : List Id) (y : Id) → IsPath m x via y → ¬ IsReady m y
      → Reaches (remaining ids m) x y
  IsPath-left x [] y d not_ready =
      Reaches-dependency (remaining ids m) x y ((DependsOn-remaining ids m x y).1 (
        d,
        not_among_ids x y (Reaches-dependency m x y d) not_ready,
        not_among_ids y y (Reaches-refl m y) not_ready,
      ))
  IsPath-left x (z ∷ via) y p not_ready =
      Reaches-trans (remaining ids m) x z y
      (Reaches-dependency (remaining ids m) x z ((DependsOn-remaining ids m x z).1 (
        p.0,
        not_among_ids x y (inr (z ∷ via, p)) not_ready,
        not_among_ids z y (inr (via, p.1)) not_ready,
      )))
      (IsPath-left z via y p.1 not_ready)

  pub Reaches-left : (x y : Id) → Reaches m x y → ¬ IsReady m y → Reaches (remaining ids m) x y
  Reaches-left x y (inl same) not_ready = inl same
  Reaches-left x y (inr path) not_ready = IsPath-left x path.0 y path.1 not_ready

-- ---- a part that has all ready instances

module _ (m part : List Instance) (rising : IsRising (ids_of m)) (rising' : IsRising (ids_of part))
    (within : (e : Instance) → Contains part e → Contains m e)
    (whole : (x : Id) → IsReady m x → Contains (ids_of part) x) where
  -- an instance of the map whose Id the part has
  same_instance : (e : Instance) → Contains m e → IsCommitted part e.id → Contains part e
  same_instance e h committed =
      let d = Contains-from_map (λ (i : Instance). i.id) part e.id committed in
      subst (Contains part) (IsRising-same m rising d.0 e (within d.0 d.1) h d.2) d.1

  IsCommitted-more : (x : Id) → IsCommitted part x → IsCommitted m x
  IsCommitted-more x h =
      let d = Contains-from_map (λ (i : Instance). i.id) part x h in
      subst (IsCommitted m) d.2 (IsCommitted-from_Contains m d.0 (within d.0 d.1))

  -- what a ready instance of the part reaches in the map, it reaches in the part
  Reaches-part : (x : Id) → IsReady part x → (y : Id) → Reaches m x y → Reaches part x y
  Reaches-part x ready y there =
      Reaches-passes m (Reaches part x) (λ v w d on. Reaches-trans part x v w on
      (Reaches-dependency part v w (depends v w d (ready.complete v on))))
      x y there (Reaches-refl part x)
    where
      depends : (v w : Id) → DependsOn m v w → IsCommitted part v → DependsOn part v w
      depends v w (e, in_e, is, listed) committed =
          (e, same_instance e in_e (subst (IsCommitted part) (sym is) committed), is, listed)

  -- ready in the part is ready in the map
  pub IsReady-part : (x : Id) → IsReady part x ↔ IsReady m x
  IsReady-part x = (
    λ ready. record {
      committed = IsCommitted-more x ready.committed;
      complete = λ y there. IsCommitted-more y (ready.complete y (Reaches-part x ready y there));
    },
    λ ready. record {
      committed = whole x ready;
      complete = λ y there.
          whole y (IsReady-reached m x y (Reaches-more part m within x y there) ready);
    },
  )

  -- ---- its order

  InOneComponent-more : (x y : Id) → InOneComponent part x y → InOneComponent m x y
  InOneComponent-more x y one =
      (Reaches-more part m within x y one.0, Reaches-more part m within y x one.1)

  InOneComponent-part : (x : Id) → IsReady part x → (y : Id) → InOneComponent m x y
      → InOneComponent part x y
  InOneComponent-part x ready y one =
      let there = Reaches-part x ready y one.0 in
      (there, Reaches-part y (IsReady-reached part x y there ready) x one.1)

  Descends-more : (x : Id) → IsReady part x → (ys : List Id) → Descends part x ys
      → Descends m x ys
  Descends-more x ready [] d = tt
  Descends-more x ready (y ∷ ys) d =
      let next = IsReady-reached part x y d.0 ready in (
        Reaches-more part m within x y d.0,
        (λ back. d.1 (Reaches-part y next x back)),
        Descends-more y next ys d.2,
      )

  Descends-part : (x : Id) → IsReady part x → (ys : List Id) → Descends m x ys
      → Descends part x ys
  Descends-part x ready [] d = tt
  Descends-part x ready (y ∷ ys) d =
      let there = Reaches-part x ready y d.0 in (
        there,
        (λ back. d.1 (Reaches-more part m within y x back)),
        Descends-part y (IsReady-reached part x y there ready) ys d.2,
      )

  IsRanked-more : (r : Ranked) → IsRanked part r → IsRanked m r
  IsRanked-more r ranked = record {
    ready = (IsReady-part r.id).0 ranked.ready;
    seq = λ e h is. ranked.seq e
        (same_instance e h (subst (IsCommitted part) (sym is) ranked.ready.committed)) is;
    leader = record {
      member = InOneComponent-more r.id r.leader ranked.leader.member;
      least = λ y one. ranked.leader.least y (InOneComponent-part r.id ranked.ready y one);
    };
    depth = let down = ranked.depth.descent in record {
      descent = (down.0, Descends-more r.id ranked.ready down.0 down.1, down.2);
      longest = λ ys d. ranked.depth.longest ys (Descends-part r.id ranked.ready ys d);
    };
  }

  -- the execution order of the part is that of the map
  pub IsExecutionOrder-part : (order : List Ranked) → IsExecutionOrder part order
      → IsExecutionOrder m order
  IsExecutionOrder-part order ordered = record {
    ranked = λ r h. IsRanked-more r (ordered.ranked r h);
    whole = λ x ready. ordered.whole x ((IsReady-part x).1 ready);
    rising = ordered.rising;
  }

-- ---- the commands of a part

-- instances of a part have the same commands in the map
pub commands_in-part : (m part : List Instance) → IsRising (ids_of m) → IsRising (ids_of part)
    → ((e : Instance) → Contains part e → Contains m e)
    → (ids : List Id) → ((x : Id) → Contains ids x → Contains (ids_of part) x)
    → commands_in part ids ≡ commands_in m ids
commands_in-part m part rising rising' within ids in_part =
    map-agree (λ x. ops_or_empty (instance_of part x)) (λ x. ops_or_empty (instance_of m x)) ids
    (λ x h. ap ops_or_empty (same x (in_part x h)))
  where
    same : (x : Id) → IsCommitted part x → instance_of part x ≡ instance_of m x
    same x committed =
        let e = Contains-from_map (λ (i : Instance). i.id) part x committed in
        let found = instance_of-finds part e.0 e.1 in
        let known = instance_of-found part e.0.id found.0 found.1 in
        ap (instance_of part) (sym e.2) ∙ found.1
        ∙ sym ((instance_of-iff_contains m rising x found.0).1
        (within found.0 known.0, known.1 ∙ e.2))

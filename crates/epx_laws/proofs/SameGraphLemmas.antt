-- Two maps whose instances differ in their operations alone have the same graph, the same ready
-- and waiting instances, and the same orders.
use Rattle.std.proofs.Common.{◌≡◌, ℕ, List, [], ◌∷◌, Contains, is_lt, nat_cmp, sym, ap₂, ◌∙◌, subst}
use Rattle.epx_types.proofs.Common.{ordering_then, id_cmp, Instance, IsCommitted, DependsOn}
use Rattle.epx_types.proofs.Common.{Reaches, IsReady, WaitsFor, Waiting, IsWaitingList}
use Rattle.epx_types.proofs.Common.{InOneComponent, IsLeader, Descends, IsDepth, Ranked, IsRanked}
use Rattle.epx_types.proofs.Common.{IsExecutionOrder, SequenceBefore, IsLawful, Contains-from_map}
use Rattle.epx_types.proofs.Common.{IsCommitted-from_Contains, Reaches-refl, Reaches-trans}
use Rattle.epx_types.proofs.Common.{Reaches-dependency, Reaches-passes}
use Rattle.epx_types.specs.declared.id.Id.{Id}

-- each instance of m is in n, but for its operations
abbrev pub IsInGraphOf : List Instance → List Instance → Type 0
IsInGraphOf n m = (e : Instance) → Contains m e
    → (d : Instance) × Contains n d × (d.id ≡ e.id) × (d.seq ≡ e.seq) × (d.deps ≡ e.deps)

module _ (m n : List Instance) (into : IsInGraphOf n m) where
  IsCommitted-into : (x : Id) → IsCommitted m x → IsCommitted n x
  IsCommitted-into x h =
      let e = Contains-from_map (λ (i : Instance). i.id) m x h in
      let d = into e.0 e.1 in
      subst (IsCommitted n) (d.2 ∙ e.2) (IsCommitted-from_Contains n d.0 d.1)

  pub DependsOn-into : (x y : Id) → DependsOn m x y → DependsOn n x y
  DependsOn-into x y (e, in_e, is, listed) =
      let d = into e in_e in
      (d.0, d.1, d.2 ∙ is, subst (λ (deps : List Id). Contains deps y) (sym d.4) listed)

  pub Reaches-into : (x y : Id) → Reaches m x y → Reaches n x y
  Reaches-into x y there =
      Reaches-passes m (Reaches n x)
      (λ v w d on. Reaches-trans n x v w on (Reaches-dependency n v w (DependsOn-into v w d)))
      x y there (Reaches-refl n x)

module _ (m n : List Instance) (into : IsInGraphOf n m) (back : IsInGraphOf m n) where
  pub InOneComponent-same : (x y : Id) → InOneComponent m x y → InOneComponent n x y
  InOneComponent-same x y h = (Reaches-into m n into x y h.0, Reaches-into m n into y x h.1)

  pub IsReady-same : (x : Id) → IsReady m x → IsReady n x
  IsReady-same x ready = record {
    committed = IsCommitted-into m n into x ready.committed;
    complete = λ y there.
        IsCommitted-into m n into y (ready.complete y (Reaches-into n m back x y there));
  }

  pub WaitsFor-same : (x y : Id) → WaitsFor m x y → WaitsFor n x y
  WaitsFor-same x y waits = record {
    committed = IsCommitted-into m n into x waits.committed;
    reached = Reaches-into m n into x y waits.reached;
    missing = λ h. waits.missing (IsCommitted-into n m back y h);
    least = λ z there none. waits.least z (Reaches-into n m back x z there)
        (λ h. none (IsCommitted-into m n into z h));
  }

  Descends-same : (x : Id) (ys : List Id) → Descends m x ys → Descends n x ys
  Descends-same x [] d = tt
  Descends-same x (y ∷ ys) d = (
    Reaches-into m n into x y d.0,
    λ h. d.1 (Reaches-into n m back y x h),
    Descends-same y ys d.2,
  )

module _ (m n : List Instance) (into : IsInGraphOf n m) (back : IsInGraphOf m n) where
  pub IsLeader-same : (x l : Id) → IsLeader m x l → IsLeader n x l
  IsLeader-same x l lead = record {
    member = InOneComponent-same m n into back x l lead.member;
    least = λ y h. lead.least y (InOneComponent-same n m back into x y h);
  }

  pub IsDepth-same : (x : Id) (k : ℕ) → IsDepth m x k → IsDepth n x k
  IsDepth-same x k depth = record {
    descent = (
      depth.descent.0,
      Descends-same m n into back x depth.descent.0 depth.descent.1,
      depth.descent.2,
    );
    longest = λ ys d. depth.longest ys (Descends-same n m back into x ys d);
  }

  pub IsWaitingList-same : (ws : List Waiting) → IsWaitingList m ws → IsWaitingList n ws
  IsWaitingList-same ws list = record {
    waits = λ w h. WaitsFor-same m n into back w.id w.missing (list.waits w h);
    whole = λ x y waits. list.whole x y (WaitsFor-same n m back into x y waits);
    rising = list.rising;
  }

  IsRanked-same : (r : Ranked) → IsRanked m r → IsRanked n r
  IsRanked-same r ranked = record {
    ready = IsReady-same m n into back r.id ranked.ready;
    seq = λ e in_e is. let d = back e in_e in sym d.3 ∙ ranked.seq d.0 d.1 (d.2 ∙ is);
    leader = IsLeader-same r.id r.leader ranked.leader;
    depth = IsDepth-same r.id r.depth ranked.depth;
  }

  pub IsExecutionOrder-same : (order : List Ranked) → IsExecutionOrder m order
      → IsExecutionOrder n order
  IsExecutionOrder-same order ordered = record {
    ranked = λ r h. IsRanked-same r (ordered.ranked r h);
    whole = λ x ready. ordered.whole x (IsReady-same n m back into x ready);
    rising = ordered.rising;
  }

  SequenceBefore-same : (x y : Id) → SequenceBefore m x y → SequenceBefore n x y
  SequenceBefore-same x y before =
      let d = into before.first before.first_in in
      let e = into before.second before.second_in in
      record {
        first = d.0;
        second = e.0;
        first_in = d.1;
        first_is = d.2 ∙ before.first_is;
        second_in = e.1;
        second_is = e.2 ∙ before.second_is;
        lower = ap₂ (λ a b. is_lt (ordering_then (nat_cmp a b) (id_cmp x y))) d.3 e.3
            ∙ before.lower;
      }

module _ (m n : List Instance) (into : IsInGraphOf n m) (back : IsInGraphOf m n) where
  pub IsLawful-same : (ids : List Id) → IsLawful m ids → IsLawful n ids
  IsLawful-same ids lawful = record {
    once = lawful.once;
    only = λ x h. IsReady-same m n into back x (lawful.only x h);
    whole = λ x ready. lawful.whole x (IsReady-same n m back into x ready);
    after_reached = λ x y h there none. lawful.after_reached x y h
        (Reaches-into n m back x y there) (λ again. none (Reaches-into m n into y x again));
    by_sequence = λ x y h k member before. lawful.by_sequence x y h k
        (InOneComponent-same n m back into x y member)
        (SequenceBefore-same n m back into x y before);
  }

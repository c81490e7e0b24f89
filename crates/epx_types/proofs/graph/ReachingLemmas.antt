-- Reaching is reflexive and transitive. What follows for components, depth, readiness and waiting.
use Rattle.std.proofs.Common.{◌≡◌, ℕ, ◌≤◌, ◌<◌, List, [], ◌∷◌, ◌++◌, length, refl, sym, subst, inl}
use Rattle.std.proofs.Common.{inr, arith}
use Rattle.epx_types.specs.declared.id.Id.{Id}
use Rattle.epx_types.specs.Instances.{Instance}
use Rattle.epx_types.specs.Ids.{UpTo}
use Rattle.epx_types.specs.Reaching.{DependsOn, IsPath, Reaches}
use Rattle.epx_types.specs.Depth.{Descends, IsDepth, FallsOneWay}
use Rattle.epx_types.specs.Components.{IsLeader, InOneComponent}
use Rattle.epx_types.specs.Readiness.{IsReady, WaitsFor}
use Rattle.epx_types.proofs.lists.ComparisonLemmas.{id_cmp-IsTotalOrder, id_cmp-IsAntisymmetric}
use Rattle.epx_types.proofs.lists.TotalOrderLemmas.{is_lt-both_same}

-- two Ids, each at most the other, are equal
pub UpTo-antisymm : (x y : Id) → UpTo x y → UpTo y x → x ≡ y
UpTo-antisymm x y p q = is_lt-both_same id_cmp-IsTotalOrder id_cmp-IsAntisymmetric x y p q

module _ (m : List Instance) where
  -- an instance reaches itself
  pub Reaches-refl : (x : Id) → Reaches m x x
  Reaches-refl x = inl refl

  -- two paths joined
  pub IsPath-append : (x : Id) (via : List Id) (y : Id) (on : List Id) (z : Id) → IsPath m x via y
      → IsPath m y on z → IsPath m x (via ++ y ∷ on) z
  IsPath-append x [] y on z p q = (p, q)
  IsPath-append x (v ∷ via) y on z p q = (p.0, IsPath-append v via y on z p.1 q)

  -- reaching is transitive
  pub Reaches-trans : (x y z : Id) → Reaches m x y → Reaches m y z → Reaches m x z
  Reaches-trans x y z p q =
      elim p [
        | inl e ↦ let P : Id → Type 0 = λ w. Reaches m w z in subst P (sym e) q
        | inr p' ↦ elim q [
          | inl e ↦ let P : Id → Type 0 = λ w. Reaches m x w in subst P e (inr p')
          | inr q' ↦ inr (p'.0 ++ y ∷ q'.0, IsPath-append x p'.0 y q'.0 z p'.1 q'.1)
        ]
      ]

  -- a dependency is reached
  pub Reaches-dependency : (x y : Id) → DependsOn m x y → Reaches m x y
  Reaches-dependency x y d = inr ([], d)

  -- a property that passes from each instance to its dependencies passes to all that it reaches
  module _ (P : Id → Type 0) (on : (x y : Id) → DependsOn m x y → P x → P y) where
    IsPath-passes : (x : Id) (via : List Id) (y : Id) → IsPath m x via y → P x → P y
    IsPath-passes x [] y d p = on x y d p
    IsPath-passes x (z ∷ via) y d p = IsPath-passes z via y d.1 (on x z d.0 p)

    -- and so it passes to the end of a path
    pub Reaches-passes : (x y : Id) → Reaches m x y → P x → P y
    Reaches-passes x y (inl e) p = subst P e p
    Reaches-passes x y (inr path) p = IsPath-passes x path.0 y path.1 p

  -- ---- components

  -- an instance is in its own component
  pub InOneComponent-refl : (x : Id) → InOneComponent m x x
  InOneComponent-refl x = (inl refl, inl refl)

  -- being in one component is symmetric
  pub InOneComponent-symm : (x y : Id) → InOneComponent m x y → InOneComponent m y x
  InOneComponent-symm x y h = (h.1, h.0)

  -- being in one component is transitive
  pub InOneComponent-trans : (x y z : Id) → InOneComponent m x y → InOneComponent m y z
      → InOneComponent m x z
  InOneComponent-trans x y z p q = (Reaches-trans x y z p.0 q.0, Reaches-trans z y x q.1 p.1)

  -- members of one component have the same leader
  pub IsLeader-along : (x y l : Id) → InOneComponent m x y → IsLeader m x l → IsLeader m y l
  IsLeader-along x y l h lead = record {
    member = InOneComponent-trans y x l (h.1, h.0) lead.member;
    least = λ z k. lead.least z (InOneComponent-trans x y z h k);
  }

  -- two leaders of one instance are equal
  pub IsLeader-unique : (x l k : Id) → IsLeader m x l → IsLeader m x k → l ≡ k
  IsLeader-unique x l k p q = UpTo-antisymm l k (p.least k q.member) (q.least l p.member)

  -- ---- depth

  -- members of one component have the same descents
  pub Descends-along : (x y : Id) (zs : List Id) → InOneComponent m x y → Descends m x zs
      → Descends m y zs
  Descends-along x y [] h d = tt
  Descends-along x y (z ∷ zs) h d =
      (Reaches-trans y x z h.1 d.0, (λ back. d.1 (Reaches-trans z y x back h.1)), d.2)

  -- members of one component have the same depth
  pub IsDepth-along : (x y : Id) (k : ℕ) → InOneComponent m x y → IsDepth m x k → IsDepth m y k
  IsDepth-along x y k h d = record {
    descent = (d.descent.0, Descends-along x y d.descent.0 h d.descent.1, d.descent.2);
    longest = λ ys e. d.longest ys (Descends-along y x ys (h.1, h.0) e);
  }

  -- two depths of one instance are equal
  pub IsDepth-unique : (x : Id) (j k : ℕ) → IsDepth m x j → IsDepth m x k → j ≡ k
  IsDepth-unique x j k p q =
      let low = q.longest p.descent.0 p.descent.1 in
      let high = p.longest q.descent.0 q.descent.1 in
      omega (arith, p.descent.2, q.descent.2)

  -- an instance that reaches another and is not reached by it has a greater depth
  pub IsDepth-falls : (x y : Id) (j k : ℕ) → Reaches m x y → ¬ Reaches m y x → IsDepth m x j
      → IsDepth m y k → k < j
  IsDepth-falls x y j k there back dx dy =
      let ys = dy.descent.0 in
      let long = dx.longest (y ∷ ys) (there, back, dy.descent.1) in
      omega (arith, dy.descent.2)

  -- numbers that fall along one-way reaching are at least the length of each descent
  pub Descends-length : (f : Id → ℕ) → FallsOneWay m f → (x : Id) (ys : List Id) → Descends m x ys
      → length ys ≤ f x
  Descends-length f falls x [] d = omega arith
  Descends-length f falls x (y ∷ ys) d =
      let rest = Descends-length f falls y ys d.2 in
      let step = falls x y d.0 d.1 in
      omega arith

  -- a depth is at most any such number
  pub IsDepth-least : (f : Id → ℕ) → FallsOneWay m f → (x : Id) (k : ℕ) → IsDepth m x k → k ≤ f x
  IsDepth-least f falls x k depth =
      let descent = Descends-length f falls x depth.descent.0 depth.descent.1 in
      omega (arith, depth.descent.2)

  -- ---- readiness and waiting

  -- what a ready instance reaches is ready
  pub IsReady-reached : (x y : Id) → Reaches m x y → IsReady m x → IsReady m y
  IsReady-reached x y there ready = record {
    committed = ready.complete y there;
    complete = λ z on. ready.complete z (Reaches-trans x y z there on);
  }

  -- an instance waits for at most one other
  pub WaitsFor-unique : (x y z : Id) → WaitsFor m x y → WaitsFor m x z → y ≡ z
  WaitsFor-unique x y z p q = UpTo-antisymm y z (p.least z q.reached q.missing)
      (q.least y p.reached p.missing)

  -- a ready instance waits for nothing
  pub IsReady-not_waiting : (x y : Id) → IsReady m x → ¬ WaitsFor m x y
  IsReady-not_waiting x y ready waits = waits.missing (ready.complete y waits.reached)

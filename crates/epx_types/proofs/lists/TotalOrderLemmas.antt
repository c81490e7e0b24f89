-- In a total order in which only equal values compare as equal, "below" is a strict order, and a
-- rising list is determined by its elements.
use Rattle.std.proofs.Common.{◌≡◌, ◌⊎◌, true, List, [], ◌∷◌, Contains, AllPairs, Ordering, Less}
use Rattle.std.proofs.Common.{Equal, Greater, is_lt, refl, sym, ap, ◌∙◌, subst, inl, inr}
use Rattle.std.specs.Ordering.{ordering_reverse}
use Rattle.std.specs.Cmp.{IsTotalOrder, tied_itself}
use Rattle.std.specs.FinMap.{IsAntisymmetric}
use Rattle.epx_types.proofs.lists.MembershipLemmas.{Contains-nil, Contains-head, Contains-cons}
use Rattle.epx_types.proofs.lists.MembershipLemmas.{Contains-cons_cases}
use Rattle.epx_types.proofs.lists.ListPositionLemmas.{AllPairs-head, AllPairs-tail}

-- the meaning of the test whether one value is below another
pub Less-is_lt : (r : Ordering) → is_lt r ≡ true → r ≡ Less
Less-is_lt Less e = refl
Less-is_lt Equal e = absurd (cc e)
Less-is_lt Greater e = absurd (cc e)

module _ {K : Type 0} {R : K → K → Ordering} (o : IsTotalOrder R) where
  -- nothing is below itself
  pub is_lt-irrefl : (x : K) → ¬ (is_lt (R x x) ≡ true)
  is_lt-irrefl x e = absurd (cc (e, tied_itself o x))

  -- below is transitive
  pub is_lt-trans : (x y z : K) → is_lt (R x y) ≡ true → is_lt (R y z) ≡ true
      → is_lt (R x z) ≡ true
  is_lt-trans x y z p q = ap is_lt (o.trans x y z (Less-is_lt _ p) (Less-is_lt _ q))

  -- no two values are each below the other
  pub is_lt-asymm : (x y : K) → is_lt (R x y) ≡ true → ¬ (is_lt (R y x) ≡ true)
  is_lt-asymm x y p q = is_lt-irrefl x (is_lt-trans x y x p q)

  module _ (same : IsAntisymmetric R) where
    -- one is below the other, or they are equal
    pub is_lt-cases : (x y : K) → (is_lt (R x y) ≡ true) ⊎ ((x ≡ y) ⊎ (is_lt (R y x) ≡ true))
    is_lt-cases x y =
        elim (R x y) as (λ r. R x y ≡ r → (is_lt (R x y) ≡ true)
        ⊎ ((x ≡ y) ⊎ (is_lt (R y x) ≡ true))) [
          | Less ↦ λ e. inl (ap is_lt e)
          | Equal ↦ λ e. inr (inl (same x y e))
          | Greater ↦ λ e. inr (inr (ap is_lt (o.antisymm y x ∙ ap ordering_reverse e)))
        ] refl

    -- neither is below the other
    pub is_lt-neither_same : (x y : K) → ¬ (is_lt (R x y) ≡ true) → ¬ (is_lt (R y x) ≡ true) → x ≡ y
    is_lt-neither_same x y p q =
        elim (is_lt-cases x y) [
          | inl l ↦ absurd (p l)
          | inr (inl e) ↦ e
          | inr (inr l) ↦ absurd (q l)
        ]

    -- each is at most the other
    pub is_lt-both_same : (x y : K) → (x ≡ y) ⊎ (is_lt (R x y) ≡ true)
        → (y ≡ x) ⊎ (is_lt (R y x) ≡ true) → x ≡ y
    is_lt-both_same x y (inl e) q = e
    is_lt-both_same x y (inr l) (inl e) = sym e
    is_lt-both_same x y (inr l) (inr k) = absurd (is_lt-asymm x y l k)

-- two lists that rise and have the same elements are equal
pub AllPairs-is_unique : {X : Type 0} (Lower : X → X → Type 0) → ((x : X) → ¬ Lower x x)
    → ((x y z : X) → Lower x y → Lower y z → Lower x z) → (xs ys : List X) → AllPairs Lower xs
    → AllPairs Lower ys → ((x : X) → Contains xs x → Contains ys x)
    → ((x : X) → Contains ys x → Contains xs x) → xs ≡ ys
AllPairs-is_unique Lower strict chain [] [] p q there back = refl
AllPairs-is_unique Lower strict chain [] (y ∷ ys) p q there back =
    absurd (Contains-nil y (back y (Contains-head y ys)))
AllPairs-is_unique Lower strict chain (x ∷ xs) [] p q there back =
    absurd (Contains-nil x (there x (Contains-head x xs)))
AllPairs-is_unique {X} Lower strict chain (x ∷ xs) (y ∷ ys) p q there back =
    let first = heads (Contains-cons_cases y ys x (there x (Contains-head x xs)))
    (Contains-cons_cases x xs y (back y (Contains-head y ys))) in
    let rest = AllPairs-is_unique Lower strict chain xs ys (AllPairs-tail Lower x xs p)
    (AllPairs-tail Lower y ys q) (λ z h. onward z h first) (λ z h. backward z h first) in
    λ i. first i ∷ rest i
  where
    heads : (y ≡ x) ⊎ Contains ys x → (x ≡ y) ⊎ Contains xs y → x ≡ y
    heads (inl e) k = sym e
    heads (inr l) (inl e) = e
    heads (inr l) (inr k) =
        absurd (strict x (chain x y x (AllPairs-head Lower x xs y p k)
        (AllPairs-head Lower y ys x q l)))

    onward : (z : X) → Contains xs z → x ≡ y → Contains ys z
    onward z h e =
        elim (Contains-cons_cases y ys z (there z (Contains-cons x xs z h))) [
          | inl f ↦ absurd
              (strict x (subst (Lower x) (sym (e ∙ f)) (AllPairs-head Lower x xs z p h)))
          | inr rest ↦ rest
        ]

    backward : (z : X) → Contains ys z → x ≡ y → Contains xs z
    backward z h e =
        elim (Contains-cons_cases x xs z (back z (Contains-cons y ys z h))) [
          | inl f ↦ absurd
              (strict y (subst (Lower y) (sym (sym e ∙ f)) (AllPairs-head Lower y ys z q h)))
          | inr rest ↦ rest
        ]

-- Rising lists, by a total order in which only equal values compare as equal.
use Rattle.std.proofs.Common.{◌≡◌, ◌⊎◌, true, List, [], ◌∷◌, Contains, AllPairs, Ordering, is_lt}
use Rattle.std.proofs.Common.{sym, subst, inl, inr, arith}
use Rattle.std.specs.Cmp.{IsTotalOrder}
use Rattle.std.specs.FinMap.{IsAntisymmetric}
use Rattle.epx_types.proofs.lists.MembershipLemmas.{Contains-nil, Contains-head, Contains-cons}
use Rattle.epx_types.proofs.lists.MembershipLemmas.{Contains-cons_cases}
use Rattle.epx_types.proofs.lists.ListPositionLemmas.{AllPairs-head, AllPairs-tail}
use Rattle.epx_types.proofs.lists.ListPositionLemmas.{AllPairs-from_parts}
use Rattle.epx_types.proofs.lists.TotalOrderLemmas.{is_lt-cases, is_lt-trans}

-- each element is below all later ones
abbrev pub Rises : {K : Type 0} → (K → K → Ordering) → List K → Type 0
Rises R xs = AllPairs (λ x y. is_lt (R x y) ≡ true) xs

-- a rising list of x and of the elements of xs
pub record IsWith {K : Type 0} (R : K → K → Ordering) (x : K) (xs now : List K) : Type 0 where
  pub rising : Rises R now
  pub here : Contains now x
  pub kept : (y : K) → Contains xs y → Contains now y
  pub only : (y : K) → Contains now y → (x ≡ y) ⊎ Contains xs y

module _ {K : Type 0} {R : K → K → Ordering} (total : IsTotalOrder R)
    (same : IsAntisymmetric R) where
  abbrev Lower : K → K → Type 0
  Lower x y = is_lt (R x y) ≡ true

  put_first : (x y : K) (xs : List K) → Lower x y → Rises R (y ∷ xs)
      → IsWith R x (y ∷ xs) (x ∷ y ∷ xs)
  put_first x y xs l rising = record {
    rising = AllPairs-from_parts Lower x (y ∷ xs) (λ z h. elim (Contains-cons_cases y xs z h) [
      | inl is ↦ subst (Lower x) is l
      | inr later ↦ is_lt-trans total x y z l (AllPairs-head Lower y xs z rising later)
    ]) rising;
    here = Contains-head x (y ∷ xs);
    kept = λ z h. Contains-cons x (y ∷ xs) z h;
    only = λ z h. Contains-cons_cases x (y ∷ xs) z h;
  }

  put_later : (x y : K) (xs now : List K) → Lower y x → Rises R (y ∷ xs) → IsWith R x xs now
      → IsWith R x (y ∷ xs) (y ∷ now)
  put_later x y xs now l rising rest = record {
    rising = AllPairs-from_parts Lower y now (λ z h. elim (rest.only z h) [
      | inl is ↦ subst (Lower y) is l
      | inr later ↦ AllPairs-head Lower y xs z rising later
    ]) rest.rising;
    here = Contains-cons y now x rest.here;
    kept = λ z h. elim (Contains-cons_cases y xs z h) [
      | inl is ↦ subst (Contains (y ∷ now)) is (Contains-head y now)
      | inr later ↦ Contains-cons y now z (rest.kept z later)
    ];
    only = λ z h. elim (Contains-cons_cases y now z h) [
      | inl is ↦ inr (subst (Contains (y ∷ xs)) is (Contains-head y xs))
      | inr later ↦ elim (rest.only z later) [
        | inl is ↦ inl is
        | inr old ↦ inr (Contains-cons y xs z old)
      ]
    ];
  }

  -- inserting one element into a rising list
  pub IsWith-exists : (x : K) (xs : List K) → Rises R xs → (now : List K) × IsWith R x xs now
  IsWith-exists x [] rising = (
    x ∷ [],
    record {
      rising = λ i j d l k. absurd (omega arith);
      here = Contains-head x [];
      kept = λ y h. Contains-cons x [] y h;
      only = λ y h. Contains-cons_cases x [] y h;
    },
  )
  IsWith-exists x (y ∷ xs) rising =
      elim (is_lt-cases total same x y) [
        | inl l ↦ (x ∷ y ∷ xs, put_first x y xs l rising)
        | inr (inl is) ↦ (
          y ∷ xs,
          record {
            rising = rising;
            here = subst (Contains (y ∷ xs)) (sym is) (Contains-head y xs);
            kept = λ z h. h;
            only = λ z h. inr h;
          },
        )
        | inr (inr l) ↦
            let rest = IsWith-exists x xs (AllPairs-tail Lower y xs rising) in
            (y ∷ rest.0, put_later x y xs rest.0 l rising rest.1)
      ]

  -- the distinct elements of a list that have a decidable property, in rising order
  pub record AreThose (P : K → Type 0) (xs those : List K) : Type 0 where
    pub elements_rise : Rises R those
    pub elements_only : (x : K) → Contains those x → Contains xs x × P x
    pub elements_all : (x : K) → Contains xs x → P x → Contains those x

  module _ (P : K → Type 0) (decide : (x : K) → P x ⊎ (¬ P x)) where
    with_one : (x : K) (xs those : List K) → P x → AreThose P xs those
        → (now : List K) × AreThose P (x ∷ xs) now
    with_one x xs those here rest =
        let put = IsWith-exists x those rest.elements_rise in (
          put.0,
          record {
            elements_rise = put.1.rising;
            elements_only = λ y h. elim (put.1.only y h) [
              | inl is ↦ (subst (Contains (x ∷ xs)) is (Contains-head x xs), subst P is here)
              | inr old ↦ let was = rest.elements_only y old in (Contains-cons x xs y was.0, was.1)
            ];
            elements_all = λ y h p. elim (Contains-cons_cases x xs y h) [
              | inl is ↦ subst (Contains put.0) is put.1.here
              | inr later ↦ put.1.kept y (rest.elements_all y later p)
            ];
          },
        )

    without_one : (x : K) (xs those : List K) → ¬ P x → AreThose P xs those
        → AreThose P (x ∷ xs) those
    without_one x xs those not_here rest = record {
      elements_rise = rest.elements_rise;
      elements_only = λ y h. let was = rest.elements_only y h in
          (Contains-cons x xs y was.0, was.1);
      elements_all = λ y h p. elim (Contains-cons_cases x xs y h) [
        | inl is ↦ absurd (not_here (subst P (sym is) p))
        | inr later ↦ rest.elements_all y later p
      ];
    }

    pub AreThose-exists : (xs : List K) → (those : List K) × AreThose P xs those
    AreThose-exists [] = (
      [],
      record {
        elements_rise = λ i j d l k. absurd (omega arith);
        elements_only = λ x h. absurd (Contains-nil x h);
        elements_all = λ x h p. absurd (Contains-nil x h);
      },
    )
    AreThose-exists (x ∷ xs) =
        let rest = AreThose-exists xs in
        elim (decide x) [
          | inl here ↦ with_one x xs rest.0 here rest.1
          | inr not_here ↦ (rest.0, without_one x xs rest.0 not_here rest.1)
        ]

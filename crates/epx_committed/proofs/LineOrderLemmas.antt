-- Lines sorted by place.
use Rattle.std.proofs.Common.{◌≡◌, inl, inr, ◌<◌, List, [], ◌∷◌, ◌++◌, Contains, sym, ap, subst}
use Rattle.std.proofs.Common.{◌∙◌, arith}
use Rattle.epx_types.proofs.Common.{nat_tests, Contains-append_cases, Placed, Earlier}
use Rattle.epx_types.proofs.Common.{HaveDistinctPlaces, place_cmp-IsTotalOrder, Contains-head}
use Rattle.epx_types.proofs.Common.{Contains-cons, Contains-nil, Contains-cons_cases, is_lt-irrefl}
use Rattle.epx_types.specs.declared.place.Place.{Place}
use Rattle.epx_committed.specs.between.LineOrder.{AreSortedBy, IsSortedByPlace}

pub Earlier-same_log : (p q : Place) → p.log ≡ q.log → p.line < q.line → Earlier p q
Earlier-same_log p q e h = grind (arith, nat_tests)

-- two sorted lists, where all of the first is before all of the second

pub AreSortedBy-append : {X : Type 0} (at : X → Place) (xs ys : List X) → AreSortedBy at xs
    → AreSortedBy at ys → ((x y : X) → Contains xs x → Contains ys y → Earlier (at x) (at y))
    → AreSortedBy at (xs ++ ys)
AreSortedBy-append at [] ys a b before = b
AreSortedBy-append at (x ∷ xs) ys a b before = (
  (λ y h. elim (Contains-append_cases xs ys y h) [
    | inl c ↦ a.0 y c
    | inr c ↦ before x y (Contains-head x xs) c
  ]),
  AreSortedBy-append at xs ys a.1 b (λ z y hz hy. before z y (Contains-cons x xs z hz) hy),
)

-- no two of them have the same place
pub HaveDistinctPlaces-sorted : (lines : List Placed) → IsSortedByPlace lines
    → HaveDistinctPlaces lines
HaveDistinctPlaces-sorted [] order p q in_p in_q same = absurd (Contains-nil p in_p)
HaveDistinctPlaces-sorted (x ∷ lines) order p q in_p in_q same =
    elim (Contains-cons_cases x lines p in_p) [
      | inl is_p ↦ elim (Contains-cons_cases x lines q in_q) [
        | inl is_q ↦ sym is_p ∙ is_q
        | inr rest ↦ absurd
            (is_lt-irrefl place_cmp-IsTotalOrder q.place
            (subst (λ (at : Place). Earlier at q.place) (ap (λ (l : Placed). l.place) is_p ∙ same)
            (order.0 q rest)))
      ]
      | inr rest_p ↦ elim (Contains-cons_cases x lines q in_q) [
        | inl is_q ↦ absurd
            (is_lt-irrefl place_cmp-IsTotalOrder p.place
            (subst (λ (at : Place). Earlier at p.place)
            (ap (λ (l : Placed). l.place) is_q ∙ sym same) (order.0 p rest_p)))
        | inr rest_q ↦ HaveDistinctPlaces-sorted lines order.1 p q rest_p rest_q same
      ]
    ]

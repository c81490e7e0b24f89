-- The Ids of a rising list on both sides of an Id between two neighbours.
use Rattle.std.proofs.Common.{◌≡◌, ◌-◌, ◌<◌, ◌≤◌, ℕ, List, length, true, get_or, Some, Ordering}
use Rattle.std.proofs.Common.{Less, Equal, Greater, is_lt, inl, inr, subst, arith}
use Rattle.epx_types.proofs.Common.{ordering_then, cases_lt, slice_get-get_or, Below, IsRising}
use Rattle.epx_types.proofs.Common.{id_cmp-IsTotalOrder, AllPairs-from_IsRising, is_lt-trans}
use Rattle.epx_types.specs.declared.id.Id.{Id}
use Rattle.std.specs.Ordering.{partial_ordering_then, is_some_and}

-- `<` of two fields, from their comparisons
pub is_lt-from_lt : (r s : Ordering) → is_some_and is_lt (partial_ordering_then (Some r) (Some s))
    ≡ true → is_lt (ordering_then r s) ≡ true
is_lt-from_lt Less s p = p
is_lt-from_lt Equal s p = p
is_lt-from_lt Greater s p = p

-- inside a list the default does not matter
pub get_or-other_default : (ids : List Id) (k : ℕ) (d e : Id) → k < length ids
    → get_or ids k d ≡ get_or ids k e
get_or-other_default ids k d e within =
    let one = slice_get-get_or ids k d within in
    let other = slice_get-get_or ids k e within in
    cc

module _ (ids : List Id) (rising : IsRising ids) (x : Id) (n : ℕ) (d : Id) where
  pub Below-before : 0 < n → n ≤ length ids → Below (get_or ids (n - 1) d) x → (k : ℕ) → k < n
      → Below (get_or ids k d) x
  Below-before some within last k l =
      elim (cases_lt k (n - 1)) [
        | inl lower ↦ is_lt-trans id_cmp-IsTotalOrder (get_or ids k d) (get_or ids (n - 1) d) x
            (AllPairs-from_IsRising ids rising k (n - 1) d lower (omega arith)) last
        | inr other ↦ let e : n - 1 ≡ k = omega arith in
            subst (λ i. Below (get_or ids i d) x) e last
      ]

  pub Below-after : Below x (get_or ids n d) → (k : ℕ) → n ≤ k → k < length ids
      → Below x (get_or ids k d)
  Below-after first k l within =
      elim (cases_lt n k) [
        | inl lower ↦ is_lt-trans id_cmp-IsTotalOrder x (get_or ids n d) (get_or ids k d) first
            (AllPairs-from_IsRising ids rising n k d lower within)
        | inr other ↦ let e : n ≡ k = omega arith in subst (λ i. Below x (get_or ids i d)) e first
      ]

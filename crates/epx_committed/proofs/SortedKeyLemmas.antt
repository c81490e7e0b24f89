-- Sorted keys: they rise, and the first is the least.
use Rattle.std.proofs.Common.{◌≡◌, inl, inr, ◌+◌, ◌<◌, List, ◌∷◌, length, get_or, Contains}
use Rattle.std.proofs.Common.{true≢false, sym, subst, ◌∙◌, arith}
use Rattle.epx_types.proofs.Common.{IsDistinct, IsSorted, is_lt, sorted_far, ranks_by}
use Rattle.epx_types.proofs.Common.{AllPairs-from_IsDistinct, id_cmp, Below, UpTo, IsRising}
use Rattle.epx_types.proofs.Common.{id_cmp-IsTotalOrder, id_cmp-IsAntisymmetric}
use Rattle.epx_types.proofs.Common.{IsRising-from_neighbours}
use Rattle.epx_types.proofs.Common.{is_lt-cases, id_eq-Decides}
use Rattle.epx_types.specs.declared.id.Id.{Id}
use Rattle.epx_committed.proofs.LedgerMapLemmas.{same_id}

not_below : (xs : List Id) → IsSorted id_cmp xs → (i j : _) (d : Id) → i < j → j < length xs
    → ¬ Below (get_or xs j d) (get_or xs i d)
not_below xs sorted i j d l within below =
    true≢false (sym below ∙ sorted_far (λ x y. is_lt (id_cmp x y))
    (ranks_by id_cmp-IsTotalOrder (λ (x : Id). x)) xs sorted i j d (omega arith) within)

-- sorted keys rise if no two are equal
pub IsRising-from_sorted : (xs : List Id) → IsSorted id_cmp xs → IsDistinct same_id xs → IsRising xs
IsRising-from_sorted xs sorted distinct =
    IsRising-from_neighbours xs (λ k d within.
    elim (is_lt-cases id_cmp-IsTotalOrder id_cmp-IsAntisymmetric (get_or xs k d)
    (get_or xs (k + 1) d)) [
      | inl below ↦ below
      | inr (inl same) ↦ absurd
          (AllPairs-from_IsDistinct {eq = same_id} id_eq-Decides xs distinct k (k + 1) d
          (omega arith)
          within same)
      | inr (inr above) ↦ absurd (not_below xs sorted k (k + 1) d (omega arith) within above)
    ])

-- the first of sorted keys is at most each key
pub UpTo-first : (x : Id) (xs : List Id) → IsSorted id_cmp (x ∷ xs) → (y : Id)
    → Contains (x ∷ xs) y → UpTo x y
UpTo-first x xs sorted y h =
    elim (is_lt-cases id_cmp-IsTotalOrder id_cmp-IsAntisymmetric x y) [
      | inl below ↦ inr below
      | inr (inl same) ↦ inl same
      | inr (inr above) ↦ absurd (after h.0 h.1 h.2 above)
    ]
  where
    after : (k : _) → k < length (x ∷ xs) → get_or (x ∷ xs) k y ≡ y → ¬ Below y x
    after k within is above =
        true≢false (sym (subst (λ (z : Id). Below z x) (sym is) above)
        ∙ sorted_far (λ v w. is_lt (id_cmp v w)) (ranks_by id_cmp-IsTotalOrder (λ (v : Id). v))
        (x ∷ xs) sorted 0 k y (omega arith) within)

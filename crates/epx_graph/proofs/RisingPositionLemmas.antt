-- Positions of rising Ids, and of what is taken from a list and dropped from it.
use Rattle.std.proofs.Common.{◌≡◌, ℕ, ◌+◌, ◌-◌, ◌<◌, ◌≤◌, List, take, drop, get_or, slice_get, Some}
use Rattle.std.proofs.Common.{sym, ap, subst, ◌∙◌, inl, inr, arith}
use Rattle.epx_types.proofs.Common.{cases_lt, length-take, length-drop, get_or-take, get_or-drop}
use Rattle.epx_types.proofs.Common.{slice_get_within, slice_get-get_or, get_or_from_slice_get}
use Rattle.epx_types.proofs.Common.{Below, IsRising, is_lt-irrefl, is_lt-asymm, id_cmp-IsTotalOrder}
use Rattle.epx_types.proofs.Common.{Below-by_position}
use Rattle.epx_types.specs.declared.id.Id.{Id}

-- ---- what is taken and dropped

pub slice_get-take : {X : Type 0} (xs : List X) (n k : ℕ) (x : X) → k < n → slice_get xs k ≡ Some x
    → slice_get (take n xs) k ≡ Some x
slice_get-take xs n k x l at =
    let within = slice_get_within xs k x at in
    slice_get-get_or (take n xs) k x (omega (arith, length-take n xs))
    ∙ ap Some (get_or-take n xs k x l ∙ get_or_from_slice_get xs k x x at)

pub slice_get-from_take : {X : Type 0} (xs : List X) (n k : ℕ) (x : X)
    → slice_get (take n xs) k ≡ Some x → (k < n) × (slice_get xs k ≡ Some x)
slice_get-from_take xs n k x at =
    let within = slice_get_within (take n xs) k x at in
    let l : k < n = omega (arith, length-take n xs) in (
      l,
      slice_get-get_or xs k x (omega (arith, length-take n xs))
          ∙ ap Some (sym (get_or-take n xs k x l) ∙ get_or_from_slice_get (take n xs) k x x at),
    )

pub slice_get-drop : {X : Type 0} (xs : List X) (n k : ℕ) (x : X) → n ≤ k → slice_get xs k ≡ Some x
    → slice_get (drop n xs) (k - n) ≡ Some x
slice_get-drop xs n k x l at =
    let within = slice_get_within xs k x at in
    let same : n + (k - n) ≡ k = omega arith in
    slice_get-get_or (drop n xs) (k - n) x (omega (arith, length-drop n xs))
    ∙ ap Some (get_or-drop n xs (k - n) x ∙ ap (λ i. get_or xs i x) same
    ∙ get_or_from_slice_get xs k x x at)

pub slice_get-from_drop : {X : Type 0} (xs : List X) (n i : ℕ) (x : X)
    → slice_get (drop n xs) i ≡ Some x → slice_get xs (n + i) ≡ Some x
slice_get-from_drop xs n i x at =
    let within = slice_get_within (drop n xs) i x at in
    slice_get-get_or xs (n + i) x (omega (arith, length-drop n xs))
    ∙ ap Some (sym (get_or-drop n xs i x) ∙ get_or_from_slice_get (drop n xs) i x x at)

-- ---- rising Ids

-- the lower Id has the lower position
pub IsRising-positions_back : (xs : List Id) → IsRising xs → (i j : ℕ) (x y : Id)
    → slice_get xs i ≡ Some x → slice_get xs j ≡ Some y → Below x y → i < j
IsRising-positions_back xs rising i j x y p q below =
    elim (cases_lt i j) [
      | inl l ↦ l
      | inr m ↦ elim (cases_lt j i) [
        | inl l ↦ absurd
            (is_lt-asymm id_cmp-IsTotalOrder x y below (Below-by_position xs rising j i y x q p l))
        | inr n ↦
            let same : i ≡ j = omega arith in
            let one : Some x ≡ Some y = sym p ∙ ap (slice_get xs) same ∙ q in
            let is : x ≡ y = cc one in
            absurd (is_lt-irrefl id_cmp-IsTotalOrder y (subst (λ (z : Id). Below z y) is below))
      ]
    ]

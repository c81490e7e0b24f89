-- Positions before one another in lists without repeats, and in lists sorted by a number of each.
use Rattle.std.proofs.Common.{◌≡◌, ◌≢◌, ◌⊎◌, inl, inr, ℕ, zero, suc, ◌<◌, List, length}
use Rattle.std.proofs.Common.{AllPairs, Some, slice_get, slice_index, refl, sym, ap, ◌∙◌, arith}
use Rattle.epx_types.proofs.Common.{cases_lt, Before, by_level, level_positions}
use Rattle.epx_types.proofs.Common.{Contains-by_level, Contains-level_positions, Before-across}
use Rattle.epx_types.proofs.Common.{Before-append_left, Before-append_right, AllPairs-slice_get}
use Rattle.epx_types.proofs.Common.{level_positions-rising, slice_get-from_Contains}

module _ (xs : List ℕ) (once : AllPairs (λ x y. x ≢ y) xs) where
  one_place : (i j x : ℕ) → slice_get xs i ≡ Some x → slice_get xs j ≡ Some x → i ≡ j
  one_place i j x p q =
      elim (cases_lt i j) [
        | inl l ↦ absurd (AllPairs-slice_get (λ v w. v ≢ w) xs once i j x x l p q refl)
        | inr k ↦ elim (cases_lt j i) [
          | inl l ↦ absurd (AllPairs-slice_get (λ v w. v ≢ w) xs once j i x x l q p refl)
          | inr l ↦ omega (arith, k, l)
        ]
      ]

  pub Before-trans : (x y z : ℕ) → Before xs x y → Before xs y z → Before xs x z
  Before-trans x y z (i, j, l, p, q) (k, n, l', p', q') = let same = one_place j k y q p' in
      (i, n, omega (arith, l, l', same), p, q')

  pub Before-irrefl : (x : ℕ) → ¬ Before xs x x
  Before-irrefl x (i, j, l, p, q) = let same = one_place i j x p q in omega (arith, l, same)

module _ (levels : List ℕ) where
  -- positions of one level, in rising order
  in_level : (l i j : ℕ) → i < length levels → j < length levels → slice_index levels i ≡ l
      → slice_index levels j ≡ l → i < j → Before (level_positions levels l) i j
  in_level l i j in_i in_j at_i at_j less =
      let xs = level_positions levels l in
      let a = slice_get-from_Contains xs i (Contains-level_positions levels l i in_i at_i) in
      let b = slice_get-from_Contains xs j (Contains-level_positions levels l j in_j at_j) in
      elim (cases_lt a.0 b.0) [
        | inl before ↦ (a.0, b.0, before, a.1, b.1)
        | inr upto ↦ elim (cases_lt b.0 a.0) [
          | inl after ↦
              let turned = AllPairs-slice_get (λ k m. k < m) xs (level_positions-rising levels l)
              b.0 a.0 j i after b.1 a.1 in
              absurd (omega (arith, turned, less))
          | inr other ↦
              let place : a.0 ≡ b.0 = omega (arith, upto, other) in
              let one : Some i ≡ Some j = sym a.1 ∙ ap (slice_get xs) place ∙ b.1 in
              let same : i ≡ j = cc one in
              absurd (omega (arith, same, less))
        ]
      ]

  -- by level, and inside a level in rising order
  pub Before-by_level : (n i j : ℕ) → i < length levels → j < length levels
      → slice_index levels j < n
      → (slice_index levels i < slice_index levels j)
      ⊎ ((slice_index levels i ≡ slice_index levels j) × (i < j))
      → Before (by_level levels n) i j
  Before-by_level zero i j in_i in_j below either = absurd (omega (arith, below))
  Before-by_level (suc n) i j in_i in_j below either =
      elim (cases_lt (slice_index levels j) n) [
        | inl less ↦ Before-append_left (by_level levels n) (level_positions levels n) i j
            (Before-by_level n i j in_i in_j less either)
        | inr upto ↦ elim either [
          | inl lower ↦ Before-across (by_level levels n) (level_positions levels n) i j
              (Contains-by_level levels n i in_i (omega (arith, below, lower)))
              (Contains-level_positions levels n j in_j (omega (arith, below, upto)))
          | inr tied ↦ Before-append_right (by_level levels n) (level_positions levels n) i j
              (in_level n i j in_i in_j (omega (arith, below, upto, tied.0))
              (omega (arith, below, upto)) tied.1)
        ]
      ]

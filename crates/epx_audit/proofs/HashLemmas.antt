-- Strictly increasing lists of numbers.
use Rattle.std.proofs.Common.{◌≡◌, ◌⊎◌, inl, inr, ℕ, ◌<◌, ◌≤◌, List, [], ◌∷◌, Option, Some, None}
use Rattle.std.proofs.Common.{true, length, get_or, Contains, MatchOption, is_some, subst, ap, ◌∙◌}
use Rattle.std.proofs.Common.{arith}
use Rattle.std.specs.List.Sorted.{IsStrictlyIncreasing}
use Rattle.epx_types.proofs.Common.{cases_eq, cases_lt, false≢true, get_or_default, Contains-get_or}
use Rattle.epx_types.proofs.Common.{Contains-nil, Contains-head, Contains-cons_cases, Contains-cons}
use Rattle.std.proofs.lemmas.List.Kept.{AllPairs-from_increasing}

pub Contains-or_not : (xs : List ℕ) (x : ℕ) → Contains xs x ⊎ (¬ Contains xs x)
Contains-or_not [] x = inr (λ h. Contains-nil x h)
Contains-or_not (y ∷ ys) x = elim (cases_eq y x) [
  | inl same ↦ inl (subst (Contains (y ∷ ys)) same (Contains-head y ys))
  | inr differ ↦ elim (Contains-or_not ys x) [
    | inl there ↦ inl (Contains-cons y ys x there)
    | inr none ↦ inr (λ h. elim (Contains-cons_cases y ys x h)
        [ inl same ↦ differ same | inr later ↦ none later ])
  ]
]

module _ (xs : List ℕ) (rising : IsStrictlyIncreasing xs) where
  pub get_or-rising : (i j : ℕ) → i < j → j < length xs → get_or xs i 0 < get_or xs j 0
  get_or-rising i j below l = AllPairs-from_increasing xs rising i j 0 below l

  -- each number is at one index only
  pub get_or-is_unique : (i j : ℕ) → i < length xs → j < length xs → get_or xs i 0 ≡ get_or xs j 0
      → i ≡ j
  get_or-is_unique i j li lj same = elim (cases_lt i j) [
    | inl below ↦ absurd (omega (arith, get_or-rising i j below lj, same))
    | inr upto ↦ elim (cases_lt j i) [
      | inl above ↦ absurd (omega (arith, get_or-rising j i above li, same))
      | inr neither ↦ omega arith
    ]
  ]

  pub get_or-rising_upto : (i j : ℕ) → i ≤ j → j < length xs → get_or xs i 0 ≤ get_or xs j 0
  get_or-rising_upto i j le l = elim (cases_lt i j) [
    | inl below ↦ omega (arith, get_or-rising i j below l)
    | inr not ↦ let same : i ≡ j = omega arith in omega (arith, ap (λ i. get_or xs i 0) same)
  ]

-- what a binary search finds of a number
pub Contains-if_found : (xs : List ℕ) (x : ℕ) (found : Option ℕ) → is_some found ≡ true
    → MatchOption found (¬ Contains xs x) (λ i. (i < length xs) × (get_or xs i 0 ≡ x))
    → Contains xs x
Contains-if_found xs x (Some i) some at = subst (Contains xs) at.1 (Contains-get_or xs i 0 at.0)
Contains-if_found xs x None some at = absurd (false≢true some)

-- if all elements before an index are less and all from it on are greater
pub Contains-not_between : (xs : List ℕ) (x i : ℕ) → ((k : ℕ) → k < i → get_or xs k 0 < x)
    → ((k : ℕ) → i ≤ k → k < length xs → x < get_or xs k 0) → ¬ Contains xs x
Contains-not_between xs x i before after h =
    let at : get_or xs h.0 0 ≡ x = get_or_default xs h.0 0 x h.1 ∙ h.2 in
    elim (cases_lt h.0 i) [
      | inl less ↦ omega (arith, before h.0 less, at)
      | inr more ↦ omega (arith, after h.0 more h.1, at)
    ]

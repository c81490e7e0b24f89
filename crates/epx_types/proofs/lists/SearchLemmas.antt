-- Searching a finite list, and the numbers up to a bound, for a decidable property.
use Rattle.std.proofs.Common.{◌≡◌, ◌⊎◌, ◌≤◌, ℕ, zero, suc, List, [], ◌∷◌, Contains, refl, sym}
use Rattle.std.proofs.Common.{Option, Some, None, is_some, true, false, subst, inl, inr, arith}
use Rattle.std.proofs.lemmas.Bool.{cases_lt}
use Rattle.epx_types.specs.declared.id.Id.{Id}
use Rattle.epx_types.specs.Ids.{Below, UpTo}
use Rattle.epx_types.proofs.lists.MembershipLemmas.{Contains-nil, Contains-head, Contains-cons}
use Rattle.epx_types.proofs.lists.MembershipLemmas.{Contains-cons_cases}
use Rattle.epx_types.proofs.lists.TotalOrderLemmas.{is_lt-cases, is_lt-trans}
use Rattle.epx_types.proofs.lists.ComparisonLemmas.{id_cmp-IsTotalOrder, id_cmp-IsAntisymmetric}

-- some element of a list has the property, or none has it
pub Contains-some_or_none : {X : Type 0} (P : X → Type 0) → ((x : X) → P x ⊎ (¬ P x))
    → (xs : List X)
    → ((x : X) × Contains xs x × P x) ⊎ ((x : X) → Contains xs x → ¬ P x)
Contains-some_or_none P decide [] = inr (λ x h p. Contains-nil x h)
Contains-some_or_none P decide (y ∷ xs) =
    elim (decide y) [
      | inl here ↦ inl (y, Contains-head y xs, here)
      | inr not_here ↦ elim (Contains-some_or_none P decide xs) [
        | inl found ↦ inl (found.0, Contains-cons y xs found.0 found.1, found.2)
        | inr none ↦ inr (λ x h p. elim (Contains-cons_cases y xs x h)
            [ inl same ↦ not_here (subst P (sym same) p) | inr later ↦ none x later p ])
      ]
    ]

-- an option that has a value, and one that has none
pub is_some-true : {X : Type 0} (o : Option X) → is_some o ≡ true → (x : X) × (o ≡ Some x)
is_some-true None e = absurd (cc e)
is_some-true (Some x) e = (x, refl)

pub is_some-false : {X : Type 0} (o : Option X) → is_some o ≡ false → o ≡ None
is_some-false None e = refl
is_some-false (Some x) e = absurd (cc e)

-- if equality is decidable, membership in a list is decidable
pub Contains-cases : {X : Type 0} → ((x y : X) → (x ≡ y) ⊎ (¬ (x ≡ y))) → (xs : List X) (x : X)
    → Contains xs x ⊎ (¬ Contains xs x)
Contains-cases same xs x =
    elim (Contains-some_or_none (λ y. y ≡ x) (λ y. same y x) xs) [
      | inl found ↦ inl (subst (Contains xs) found.2 found.1)
      | inr none ↦ inr (λ h. none x h refl)
    ]

-- the greatest number up to a bound that has the property
pub greatest-exists : (P : ℕ → Type 0) → ((k : ℕ) → P k ⊎ (¬ P k)) → P 0 → (n : ℕ)
    → (k : ℕ) × P k × ((j : ℕ) → j ≤ n → P j → j ≤ k)
greatest-exists P decide least zero = (0, least, λ j l p. l)
greatest-exists P decide least (suc n) =
    elim (decide (suc n)) [
      | inl here ↦ (suc n, here, λ j l p. l)
      | inr not_here ↦
          let lower = greatest-exists P decide least n in (
            lower.0,
            lower.1,
            λ j l p. elim (cases_lt j (suc n)) [
              | inl less ↦ lower.2 j (omega arith) p
              | inr more ↦ absurd (let same : j ≡ suc n = omega arith in not_here (subst P same p))
            ],
          )
    ]

UpTo-below : (x y z : Id) → Below x y → UpTo y z → UpTo x z
UpTo-below x y z l (inl same) = inr (subst (Below x) same l)
UpTo-below x y z l (inr k) = inr (is_lt-trans id_cmp-IsTotalOrder x y z l k)

module _ (P : Id → Type 0) (decide : (x : Id) → P x ⊎ (¬ P x)) where
  -- x has the property, and no Id of the list below x has it
  abbrev pub IsLeastOf : List Id → Id → Type 0
  IsLeastOf ids x = P x × ((y : Id) → Contains ids y → P y → UpTo x y)

  with_first : (z : Id) (ids : List Id) → P z → (x : Id) → IsLeastOf ids x
      → (w : Id) × IsLeastOf (z ∷ ids) w
  with_first z ids here x least =
      elim (is_lt-cases id_cmp-IsTotalOrder id_cmp-IsAntisymmetric z x) [
        | inl l ↦ (
          z,
          (
            here,
            λ y h p. elim (Contains-cons_cases z ids y h)
                [ inl same ↦ inl same | inr later ↦ UpTo-below z x y l (least.1 y later p) ],
          ),
        )
        | inr (inl e) ↦ (
          x,
          (
            least.0,
            λ y h p. elim (Contains-cons_cases z ids y h) [
              | inl same ↦ inl (subst (λ (w : Id). w ≡ y) e same)
              | inr later ↦ least.1 y later p
            ],
          ),
        )
        | inr (inr l) ↦ (
          x,
          (
            least.0,
            λ y h p. elim (Contains-cons_cases z ids y h)
                [ inl same ↦ inr (subst (Below x) same l) | inr later ↦ least.1 y later p ],
          ),
        )
      ]

  -- the least Id of a list that has the property, or no Id has it
  pub IsLeastOf-or_none : (ids : List Id) → ((x : Id) × IsLeastOf ids x)
      ⊎ ((y : Id) → Contains ids y → ¬ P y)
  IsLeastOf-or_none [] = inr (λ y h p. Contains-nil y h)
  IsLeastOf-or_none (z ∷ ids) =
      elim (decide z) [
        | inl here ↦ elim (IsLeastOf-or_none ids) [
          | inl least ↦ inl (with_first z ids here least.0 least.1)
          | inr none ↦ inl (
            z,
            (
              here,
              λ y h p. elim (Contains-cons_cases z ids y h)
                  [ inl same ↦ inl same | inr later ↦ absurd (none y later p) ],
            ),
          )
        ]
        | inr not_here ↦ elim (IsLeastOf-or_none ids) [
          | inl least ↦ inl (
            least.0,
            (
              least.1.0,
              λ y h p. elim (Contains-cons_cases z ids y h) [
                | inl same ↦ absurd (not_here (subst P (sym same) p))
                | inr later ↦ least.1.1 y later p
              ],
            ),
          )
          | inr none ↦ inr (λ y h p. elim (Contains-cons_cases z ids y h)
              [ inl same ↦ not_here (subst P (sym same) p) | inr later ↦ none y later p ])
        ]
      ]

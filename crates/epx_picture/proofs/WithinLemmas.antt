-- Whether something lies within some steps of an instance is decidable; more steps lose nothing.
use Rattle.std.proofs.Common.{◌≡◌, ◌⊎◌, ◌↔◌, inl, inr, ℕ, zero, suc, ◌+◌, ◌≤◌, Bool, true}
use Rattle.std.proofs.Common.{false, List, ◌++◌, flat_map, Contains, IsTrue, refl, subst, arith}
use Rattle.epx_types.proofs.Common.{false≢true, cases_lt, Contains-append_left}
use Rattle.epx_types.proofs.Common.{Contains-append_right, Contains-flat_map, Contains-some_or_none}
use Rattle.epx_types.proofs.Common.{both-cases, Instance, ids_of, DependsOn-cases}
use Rattle.epx_types.proofs.Common.{DependsOn-committed, Id-cases}
use Rattle.epx_types.specs.declared.id.Id.{Id}
use Rattle.epx_picture.specs.Neighbourhoods.{IsStep, IsWithinSteps, IsWithinTest}

-- the truth value of a decided fact
passes : {A : Type 0} → A ⊎ (¬ A) → Bool
passes (inl a) = true
passes (inr none) = false

passes_exactly : {A : Type 0} (d : A ⊎ (¬ A)) → IsTrue (passes d) ↔ A
unfolding passes
passes_exactly (inl a) = (λ h. a, λ a. refl)
passes_exactly (inr none) = (λ h. absurd (false≢true h), λ a. absurd (none a))

module _ (m : List Instance) where
  -- a step is decidable
  IsStep-cases : (x y : Id) → IsStep m x y ⊎ (¬ IsStep m x y)
  IsStep-cases x y = elim (DependsOn-cases m x y) [
    | inl out ↦ inl (inl out)
    | inr not_out ↦ elim (DependsOn-cases m y x) [
      | inl back ↦ inl (inr back)
      | inr neither ↦ inr (λ h. elim h [ inl out ↦ not_out out | inr back ↦ neither back ])
    ]
  ]

  -- each step begins at one of these
  step_starts : List Id
  step_starts = ids_of m ++ flat_map (λ e. e.deps) m

  Contains-step_starts : (x y : Id) → IsStep m x y → Contains step_starts x
  unfolding step_starts
  Contains-step_starts x y (inl d) = Contains-append_left (ids_of m) (flat_map (λ e. e.deps) m) x
      (DependsOn-committed m x y d)
  Contains-step_starts x y (inr d) = Contains-append_right (ids_of m) (flat_map (λ e. e.deps) m) x
      (Contains-flat_map (λ (e : Instance). e.deps) m d.0 x d.1 d.3)

  -- whether n steps or fewer lead there is decidable
  IsWithin-cases : (n : ℕ) (x y : Id) → IsWithinSteps m n x y ⊎ (¬ IsWithinSteps m n x y)
  IsWithin-cases zero x y = Id-cases x y
  IsWithin-cases (suc n) x y =
      elim (IsWithin-cases n x y) [
        | inl near ↦ inl (inl near)
        | inr far ↦ elim (Contains-some_or_none (λ z. IsWithinSteps m n x z × IsStep m z y)
            (λ z. both-cases (IsWithin-cases n x z) (IsStep-cases z y)) step_starts) [
              | inl last ↦ inl (inr (last.0, last.2.0, last.2.1))
              | inr none ↦ inr (λ h. elim h [
                | inl near ↦ far near
                | inr last ↦ none last.0 (Contains-step_starts last.0 y last.2) (last.1, last.2)
              ])
            ]
      ]

  -- so there is a test for it
  pub IsWithinTest-exists : (n : ℕ) (x : Id) → (near : Id → Bool) × IsWithinTest m n x near
  IsWithinTest-exists n x = (
    λ y. passes (IsWithin-cases n x y),
    λ y. passes_exactly (IsWithin-cases n x y),
  )

  -- ---- more steps

  pub IsWithin-more : (x y : Id) (n l : ℕ) → n ≤ l → IsWithinSteps m n x y → IsWithinSteps m l x y
  IsWithin-more x y n zero low near =
      let same : n ≡ zero = omega arith in subst (λ i. IsWithinSteps m i x y) same near
  IsWithin-more x y n (suc l) low near = elim (cases_lt n (suc l)) [
    | inl less ↦ inl (IsWithin-more x y n l (omega arith) near)
    | inr not_less ↦
        let same : n ≡ suc l = omega arith in subst (λ i. IsWithinSteps m i x y) same near
  ]

  -- where one step more adds nothing
  module _ (x : Id) (n : ℕ)
      (last : (y : Id) → IsWithinSteps m (n + 1) x y → IsWithinSteps m n x y) where
    next : (y : Id) → IsWithinSteps m (suc n) x y → IsWithinSteps m n x y
    next y near =
        let long : suc n ≡ n + 1 = omega arith in
        last y (subst (λ i. IsWithinSteps m i x y) long near)

    pub IsWithin-stays : (l : ℕ) (y : Id) → IsWithinSteps m l x y → IsWithinSteps m n x y
    IsWithin-stays zero y near = IsWithin-more x y 0 n (omega arith) near
    IsWithin-stays (suc l) y (inl near) = IsWithin-stays l y near
    IsWithin-stays (suc l) y (inr step) =
        next y (inr (step.0, IsWithin-stays l step.0 step.1, step.2))

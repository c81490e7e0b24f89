-- The equality of two instances is decidable.
use Rattle.std.proofs.Common.{◌≡◌, ◌≢◌, ◌⊎◌, inl, inr, Bool, List, [], ◌∷◌, ap, refl}
use Rattle.epx_types.proofs.Common.{Decides, cases_eq, Instance, id_eq-Decides, op_eq-Decides}
use Rattle.epx_types.proofs.commands.EqualityLemmas.{Decides-cases}

by_test : {X : Type 0} (r : Bool) (x y : X) → Decides r (x ≡ y) → (x ≡ y) ⊎ (x ≢ y)
by_test r x y d = elim (Decides-cases r d) [ inl holds ↦ inl holds.1 | inr fails ↦ inr fails.1 ]

list_cases : {X : Type 0} → ((x y : X) → (x ≡ y) ⊎ (x ≢ y)) → (xs ys : List X)
    → (xs ≡ ys) ⊎ (xs ≢ ys)
list_cases each [] [] = inl refl
list_cases each [] (y ∷ ys) = inr (λ e. cc e)
list_cases each (x ∷ xs) [] = inr (λ e. cc e)
list_cases each (x ∷ xs) (y ∷ ys) =
    elim (each x y) [
      | inl first ↦ elim (list_cases each xs ys) [
        | inl rest ↦ inl (λ i. first i ∷ rest i)
        | inr other ↦ inr (λ e. let rest : xs ≡ ys = cc e in other rest)
      ]
      | inr other ↦ inr (λ e. let first : x ≡ y = cc e in other first)
    ]

pub Instance-cases : (d e : Instance) → (d ≡ e) ⊎ (d ≢ e)
Instance-cases d e =
    elim (by_test _ d.id e.id (id_eq-Decides d.id e.id)) [
      | inr other ↦ inr (λ same. other (ap (λ (i : Instance). i.id) same))
      | inl id ↦ elim (cases_eq d.seq e.seq) [
        | inr other ↦ inr (λ same. other (ap (λ (i : Instance). i.seq) same))
        | inl seq ↦ elim (list_cases (λ x y. by_test _ x y (id_eq-Decides x y)) d.deps e.deps) [
          | inr other ↦ inr (λ same. other (ap (λ (i : Instance). i.deps) same))
          | inl deps ↦ elim (list_cases (λ x y. by_test _ x y (op_eq-Decides x y)) d.ops e.ops) [
            | inr other ↦ inr (λ same. other (ap (λ (i : Instance). i.ops) same))
            | inl ops ↦ inl (λ i. record { id = id i; seq = seq i; deps = deps i; ops = ops i })
          ]
        ]
      ]
    ]

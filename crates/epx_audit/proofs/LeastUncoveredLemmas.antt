-- A committed map is covered, or it has a least uncovered pair.
use Rattle.std.proofs.Common.{◌≡◌, ◌⊎◌, List, Contains, refl, sym, subst, inl, inr}
use Rattle.epx_types.proofs.Common.{Below, UpTo, Instance, ids_of, Conflict, IsCovered, IsReady}
use Rattle.epx_types.proofs.Common.{Conflict-symm, id_cmp-IsTotalOrder, id_cmp-IsAntisymmetric}
use Rattle.epx_types.proofs.Common.{Contains-some_or_none, IsLeastOf-or_none, Conflict-cases}
use Rattle.epx_types.proofs.Common.{IsReady-or_waits}
use Rattle.epx_types.proofs.Common.{IsReady-not_waiting, both-cases, negation-cases, Reaches-cases}
use Rattle.epx_types.proofs.Common.{is_lt-asymm, is_lt-cases, Contains-Id_cases, Id-cases}
use Rattle.epx_types.specs.declared.id.Id.{Id}
use Rattle.epx_audit.specs.Uncovered.{IsUncovered, IsLeastUncovered}

Below-cases : (x y : Id) → Below x y ⊎ (¬ Below x y)
Below-cases x y = elim (is_lt-cases id_cmp-IsTotalOrder id_cmp-IsAntisymmetric x y) [
  | inl lower ↦ inl lower
  | inr (inl same) ↦ inr
      (λ lower. is_lt-asymm id_cmp-IsTotalOrder x y lower
      (subst (λ z. Below z x) same (subst (Below x) (sym same) lower)))
  | inr (inr higher) ↦ inr (λ lower. is_lt-asymm id_cmp-IsTotalOrder x y lower higher)
]

module _ (m : List Instance) where
  -- ---- whether two instances are an uncovered pair is decidable

  IsReady-cases : (x : Id) → IsReady m x ⊎ (¬ IsReady m x)
  IsReady-cases x = elim (Contains-Id_cases (ids_of m) x) [
    | inl committed ↦ elim (IsReady-or_waits m x committed) [
      | inl ready ↦ inl ready
      | inr waits ↦ inr (λ ready. IsReady-not_waiting m x waits.0 ready waits.1)
    ]
    | inr missing ↦ inr (λ ready. missing ready.committed)
  ]

  -- the instance of an Id, if a decidable fact holds of it
  of_name : (P : Instance → Type 0) → ((d : Instance) → P d ⊎ (¬ P d)) → (x : Id)
      → ((d : Instance) × Contains m d × (d.id ≡ x) × P d)
      ⊎ (¬ ((d : Instance) × Contains m d × (d.id ≡ x) × P d))
  of_name P decide x =
      elim (Contains-some_or_none (λ d. (d.id ≡ x) × P d)
      (λ d. both-cases (Id-cases d.id x) (decide d)) m) [
        | inl found ↦ inl (found.0, found.1, found.2.0, found.2.1)
        | inr none ↦ inr (λ h. none h.0 h.1 (h.2, h.3))
      ]

  abbrev Conflicting : Id → Id → Type 0
  Conflicting x y = (d e : Instance) × Contains m d × Contains m e × (d.id ≡ x) × (e.id ≡ y)
      × Conflict d.ops e.ops

  Conflicting-cases : (x y : Id) → Conflicting x y ⊎ (¬ Conflicting x y)
  Conflicting-cases x y =
      elim (of_name (λ d. (e : Instance) × Contains m e × (e.id ≡ y) × Conflict d.ops e.ops)
      (λ d. of_name (λ e. Conflict d.ops e.ops) (λ e. Conflict-cases d.ops e.ops) y) x) [
        | inl found ↦ inl (found.0, found.3.0, found.1, found.3.1, found.2, found.3.2, found.3.3)
        | inr none ↦ inr (λ h. none (h.0, h.2, h.4, (h.1, h.3, h.5, h.6)))
      ]

  IsUncovered-cases : (x y : Id) → IsUncovered m x y ⊎ (¬ IsUncovered m x y)
  IsUncovered-cases x y =
      elim (both-cases (both-cases (IsReady-cases x) (IsReady-cases y))
      (both-cases (Conflicting-cases x y)
      (both-cases (negation-cases (Reaches-cases m x y)) (negation-cases (Reaches-cases m y x))))) [
        | inl found ↦ inl (record { ready = found.0; conflict = found.1.0; apart = found.1.1 })
        | inr none ↦ inr (λ h. none (h.ready, (h.conflict, h.apart)))
      ]

  -- ---- the least pair

  abbrev IsPairOf : Id → Id → Type 0
  IsPairOf x y = Below x y × IsUncovered m x y

  IsPairOf-cases : (x y : Id) → IsPairOf x y ⊎ (¬ IsPairOf x y)
  IsPairOf-cases x y = both-cases (Below-cases x y) (IsUncovered-cases x y)

  abbrev BeginsPair : Id → Type 0
  BeginsPair x = (y : Id) × Contains (ids_of m) y × IsPairOf x y

  BeginsPair-cases : (x : Id) → BeginsPair x ⊎ (¬ BeginsPair x)
  BeginsPair-cases x = elim (Contains-some_or_none (IsPairOf x) (IsPairOf-cases x) (ids_of m)) [
    | inl found ↦ inl found
    | inr none ↦ inr (λ h. none h.0 h.1 h.2)
  ]

  begins : (x y : Id) → IsPairOf x y → BeginsPair x
  begins x y pair = (y, pair.1.ready.1.committed, pair)

  covered_without_pairs : ((x : Id) → Contains (ids_of m) x → ¬ BeginsPair x) → IsCovered m
  covered_without_pairs none d e in_d in_e differ d_ready e_ready conflict =
      elim (Reaches-cases m d.id e.id) [
        | inl there ↦ inl there
        | inr not_there ↦ elim (Reaches-cases m e.id d.id) [
          | inl back ↦ inr back
          | inr not_back ↦ elim (is_lt-cases id_cmp-IsTotalOrder id_cmp-IsAntisymmetric d.id e.id) [
            | inl lower ↦ absurd (none d.id d_ready.committed (begins d.id e.id (
              lower,
              record {
                ready = (d_ready, e_ready);
                conflict = (d, e, in_d, in_e, refl, refl, conflict);
                apart = (not_there, not_back);
              },
            )))
            | inr (inl same) ↦ absurd (differ same)
            | inr (inr higher) ↦ absurd (none e.id e_ready.committed (begins e.id d.id (
              higher,
              record {
                ready = (e_ready, d_ready);
                conflict = (e, d, in_e, in_d, refl, refl, Conflict-symm d.ops e.ops conflict);
                apart = (not_back, not_there);
              },
            )))
          ]
        ]
      ]

  least_pair : (x : Id) → BeginsPair x
      → ((v : Id) → Contains (ids_of m) v → BeginsPair v → UpTo x v)
      → (y : Id) × IsLeastUncovered m x y
  least_pair x begun lowest = elim (IsLeastOf-or_none (IsPairOf x) (IsPairOf-cases x) (ids_of m)) [
    | inl found ↦ (
      found.0,
      record {
        rises = found.1.0.0;
        uncovered = found.1.0.1;
        least = λ v w rises other.
            elim (lowest v other.ready.0.committed (begins v w (rises, other))) [
              | inl same ↦ inr (
                same,
                found.1.1 w other.ready.1.committed
                    (subst (λ (u : Id). IsPairOf u w) (sym same) (rises, other)),
              )
              | inr lower ↦ inl lower
            ];
      },
    )
    | inr none ↦ absurd (none begun.0 begun.1 begun.2)
  ]

  pub IsCovered-or_uncovered : IsCovered m ⊎ ((x y : Id) × IsLeastUncovered m x y)
  IsCovered-or_uncovered = elim (IsLeastOf-or_none BeginsPair BeginsPair-cases (ids_of m)) [
    | inl found ↦ let second = least_pair found.0 found.1.0 found.1.1 in
        inr (found.0, second.0, second.1)
    | inr none ↦ inl (covered_without_pairs none)
  ]

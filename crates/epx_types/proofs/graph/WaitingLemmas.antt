-- A committed instance is ready exactly if it waits for nothing.
use Rattle.std.proofs.Common.{◌≡◌, ◌⊎◌, ◌<◌, ℕ, zero, suc, true, List, [], ◌∷◌, Contains, Ordering}
use Rattle.std.proofs.Common.{Less, Equal, Greater, nat_cmp, refl, sym, ◌∙◌, subst, inl, inr, arith}
use Rattle.std.specs.Ordering.{MatchOrdering, ordering_then, is_lt}
use Rattle.std.specs.Cmp.{ranked}
use Rattle.std.proofs.lemmas.Bool.{cases_lt}
use Rattle.epx_types.specs.declared.id.Id.{Id}
use Rattle.epx_types.specs.Instances.{Instance}
use Rattle.epx_types.specs.Ids.{Below}
use Rattle.epx_types.specs.CommittedMap.{ids_of, IsCommitted}
use Rattle.epx_types.specs.Reaching.{IsPath, Reaches}
use Rattle.epx_types.specs.Readiness.{IsReady, WaitsFor, NoneMissing}
use Rattle.epx_types.proofs.lists.MembershipLemmas.{Contains-nil, Contains-head, Contains-cons}
use Rattle.epx_types.proofs.lists.MembershipLemmas.{Contains-cons_cases}
use Rattle.epx_types.proofs.lists.TotalOrderLemmas.{is_lt-cases, is_lt-irrefl}
use Rattle.epx_types.proofs.lists.ComparisonLemmas.{id_cmp-IsTotalOrder, id_cmp-IsAntisymmetric}

-- ---- induction over smaller Ids

pub Below-parts : (x y : Id) → Below x y → (x.replica < y.replica)
    ⊎ ((x.replica ≡ y.replica) × (x.number < y.number))
Below-parts x y l = by (nat_cmp x.replica y.replica) (nat_cmp x.number y.number)
    (ranked x.replica y.replica _ refl) (ranked x.number y.number _ refl) l where
      by : (r s : Ordering) → MatchOrdering r (x.replica < y.replica) (x.replica ≡ y.replica)
          (y.replica < x.replica) → MatchOrdering s (x.number < y.number) (x.number ≡ y.number)
          (y.number < x.number) → is_lt (ordering_then r s) ≡ true
          → (x.replica < y.replica) ⊎ ((x.replica ≡ y.replica) × (x.number < y.number))
      by Less s p q l = inl p
      by Equal Less p q l = inr (p, q)
      by Equal Equal p q l = absurd (cc l)
      by Equal Greater p q l = absurd (cc l)
      by Greater s p q l = absurd (cc l)

module _ (P : Id → Type 0) (step : (x : Id) → ((y : Id) → Below y x → P y) → P x) where
  of_replica : (r : ℕ) → ((y : Id) → y.replica < r → P y) → (n : ℕ) (x : Id) → x.replica ≡ r
      → x.number < n → P x
  of_replica r lower zero x e l = absurd (omega arith)
  of_replica r lower (suc n) x e l = step x (λ y b. elim (Below-parts y x b) [
    | inl less ↦ lower y (omega arith)
    | inr tied ↦ of_replica r lower n y (tied.0 ∙ e) (omega (arith, tied.1))
  ])

  below_replica : (r : ℕ) (x : Id) → x.replica < r → P x
  below_replica zero x l = absurd (omega arith)
  below_replica (suc r) x l =
      elim (cases_lt x.replica r) [
        | inl less ↦ below_replica r x less
        | inr more ↦ of_replica r (below_replica r) (suc x.number) x (omega arith) (omega arith)
      ]

  -- a property holds of each Id if it holds of an Id whenever it holds of all smaller ones
  pub Id-induction : (x : Id) → P x
  Id-induction x = below_replica (suc x.replica) x (omega arith)

-- ---- being committed is decidable

-- equality of Ids is decidable
pub Id-cases : (x y : Id) → (x ≡ y) ⊎ (¬ (x ≡ y))
Id-cases x y =
    elim (is_lt-cases id_cmp-IsTotalOrder id_cmp-IsAntisymmetric x y) [
      | inl l ↦ inr (λ e. is_lt-irrefl id_cmp-IsTotalOrder x (subst (Below x) (sym e) l))
      | inr (inl e) ↦ inl e
      | inr (inr l) ↦ inr (λ e. is_lt-irrefl id_cmp-IsTotalOrder y (subst (Below y) e l))
    ]

-- membership of an Id in a list is decidable
pub Contains-Id_cases : (ids : List Id) (x : Id) → Contains ids x ⊎ (¬ Contains ids x)
Contains-Id_cases [] x = inr (Contains-nil x)
Contains-Id_cases (y ∷ ids) x =
    elim (Id-cases y x) [
      | inl e ↦ inl (subst (Contains (y ∷ ids)) e (Contains-head y ids))
      | inr other ↦ elim (Contains-Id_cases ids x) [
        | inl rest ↦ inl (Contains-cons y ids x rest)
        | inr none ↦ inr (λ h. elim (Contains-cons_cases y ids x h)
            [ inl e ↦ other e | inr rest ↦ none rest ])
      ]
    ]

module _ (m : List Instance) where
  -- if x waits for nothing, nothing that it reaches is missing
  nothing_missing : (x : Id) → IsCommitted m x → ((y : Id) → ¬ WaitsFor m x y) → (y : Id)
      → Reaches m x y → ¬ IsCommitted m y → ⊥
  nothing_missing x committed waits = Id-induction (λ y. Reaches m x y → ¬ IsCommitted m y → ⊥)
      (λ y lower reached missing. waits y (record {
        committed = committed;
        reached = reached;
        missing = missing;
        least = λ z on lacks. elim (is_lt-cases id_cmp-IsTotalOrder id_cmp-IsAntisymmetric y z) [
          | inl l ↦ inr l
          | inr (inl e) ↦ inl e
          | inr (inr l) ↦ absurd (lower z l on lacks)
        ];
      }))

  -- a committed instance that waits for nothing is ready
  pub IsReady-from_no_wait : (x : Id) → IsCommitted m x → ((y : Id) → ¬ WaitsFor m x y)
      → IsReady m x
  IsReady-from_no_wait x committed waits = record {
    committed = committed;
    complete = λ y reached. elim (Contains-Id_cases (ids_of m) y) [
      | inl there ↦ there
      | inr missing ↦ absurd (nothing_missing x committed waits y reached missing)
    ];
  }

  -- ---- maps without missing dependencies

  -- if no dependency is missing, each path ends at a committed instance
  pub IsCommitted-path : NoneMissing m → (x : Id) (via : List Id) (y : Id) → IsPath m x via y
      → IsCommitted m y
  IsCommitted-path whole x [] y d = whole d.0 d.1 y d.3
  IsCommitted-path whole x (z ∷ via) y p = IsCommitted-path whole z via y p.1

  -- if no dependency is missing, each committed instance is ready
  pub IsReady-none_missing : NoneMissing m → (x : Id) → IsCommitted m x → IsReady m x
  IsReady-none_missing whole x committed = record {
    committed = committed;
    complete = λ y reached. elim reached [
      | inl e ↦ subst (IsCommitted m) e committed
      | inr path ↦ IsCommitted-path whole x path.0 y path.1
    ];
  }

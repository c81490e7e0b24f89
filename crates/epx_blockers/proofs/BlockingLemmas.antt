-- Whether one instance blocks another is decidable. The blocked instances are those that wait.
use Rattle.std.proofs.Common.{◌≢◌, ◌⊎◌, inl, inr, List, [], ◌∷◌, Contains, sym, subst}
use Rattle.std.proofs.Common.{◌∙◌}
use Rattle.epx_types.proofs.Common.{Instance, ids_of, IsCommitted, DependsOn, IsPath}
use Rattle.epx_types.proofs.Common.{both-cases, negation-cases, Contains-some_or_none, Id-cases}
use Rattle.epx_types.proofs.Common.{Contains-Id_cases, DependsOn-cases, DependsOn-committed}
use Rattle.epx_types.proofs.Common.{Reaches-cases, within_reach, Contains-within_reach}
use Rattle.epx_types.proofs.Common.{IsReady-or_waits}
use Rattle.epx_types.specs.declared.id.Id.{Id}
use Rattle.epx_graph.specs.GraphOf.{IsMissing}
use Rattle.epx_blockers.specs.BlockerLaws.{BlockedInstancesWait}
use Rattle.epx_blockers.specs.Blocking.{Blocks, BlocksAlone, SeveralBlock}

pub BlockedInstancesWait-holds : BlockedInstancesWait
BlockedInstancesWait-holds m x = (
  λ (y, b). elim (IsReady-or_waits m x b.committed) [
    | inl ready ↦ absurd (b.missing (ready.complete y b.reached))
    | inr waits ↦ waits
  ],
  λ (y, w). (y, record { committed = w.committed; reached = w.reached; missing = w.missing }),
)

module _ (m : List Instance) where
  pub Blocks-cases : (y x : Id) → Blocks m y x ⊎ (¬ Blocks m y x)
  Blocks-cases y x =
      elim (both-cases (Contains-Id_cases (ids_of m) x) (both-cases (Reaches-cases m x y)
      (negation-cases (Contains-Id_cases (ids_of m) y)))) [
        | inl h ↦ inl (record { committed = h.0; reached = h.1.0; missing = h.1.1 })
        | inr none ↦ inr (λ b. none (b.committed, (b.reached, b.missing)))
      ]

  -- an instance that blocks another does so alone, or a different one does so too
  pub BlocksAlone-or_other : (y x : Id) → Blocks m y x
      → BlocksAlone m y x ⊎ ((z : Id) × Blocks m z x × (z ≢ y))
  BlocksAlone-or_other y x b =
      elim (Contains-some_or_none (λ z. Blocks m z x × (z ≢ y))
      (λ z. both-cases (Blocks-cases z x) (negation-cases (Id-cases z y))) (within_reach m x)) [
        | inl found ↦ inr (found.0, found.2.0, found.2.1)
        | inr none ↦ inl (record {
          blocks = b;
          only = λ z other. elim (Id-cases z y) [
            | inl same ↦ same
            | inr differs ↦ absurd
                (none z (Contains-within_reach m x z other.reached) (other, differs))
          ];
        })
      ]

  pub BlocksAlone-cases : (y x : Id) → BlocksAlone m y x ⊎ (¬ BlocksAlone m y x)
  BlocksAlone-cases y x =
      elim (Blocks-cases y x) [
        | inr none ↦ inr (λ a. none a.blocks)
        | inl b ↦ elim (BlocksAlone-or_other y x b) [
          | inl alone ↦ inl alone
          | inr other ↦ inr (λ a. other.2 (a.only other.0 other.1))
        ]
      ]

  -- no instance is blocked by one alone and by several
  pub SeveralBlock-not_alone : (y x : Id) → BlocksAlone m y x → ¬ SeveralBlock m x
  SeveralBlock-not_alone y x a (v, w, first, second, differ) =
      differ (a.only v first ∙ sym (a.only w second))

  pub SeveralBlock-cases : (x : Id) → SeveralBlock m x ⊎ (¬ SeveralBlock m x)
  SeveralBlock-cases x =
      elim (Contains-some_or_none (λ y. Blocks m y x × (¬ BlocksAlone m y x))
      (λ y. both-cases (Blocks-cases y x) (negation-cases (BlocksAlone-cases y x)))
      (within_reach m x)) [
        | inl found ↦ elim (BlocksAlone-or_other found.0 x found.2.0) [
          | inl alone ↦ absurd (found.2.1 alone)
          | inr other ↦ inl (other.0, found.0, other.1, found.2.0, other.2)
        ]
        | inr none ↦ inr (λ s. none s.0 (Contains-within_reach m x s.0 s.2.reached)
            (s.2, λ a. SeveralBlock-not_alone s.0 x a s))
      ]

  -- ---- missing instances

  -- the dependency at the end of a path
  last_dependency : (x : Id) (via : List Id) (y : Id) → IsPath m x via y
      → (w : Id) × DependsOn m w y
  last_dependency x [] y path = (x, path)
  last_dependency x (z ∷ via) y path = last_dependency z via y path.1

  -- what blocks an instance is missing
  pub IsMissing-of_blocker : (y x : Id) → Blocks m y x → IsMissing m y
  IsMissing-of_blocker y x b =
      elim b.reached [
        | inl same ↦ absurd (b.missing (subst (IsCommitted m) same b.committed))
        | inr path ↦ (last_dependency x path.0 y path.1, b.missing)
      ]

  pub IsMissing-cases : (y : Id) → IsMissing m y ⊎ (¬ IsMissing m y)
  IsMissing-cases y =
      both-cases (dependent_cases
      (Contains-some_or_none (λ x. DependsOn m x y) (λ x. DependsOn-cases m x y)
      (ids_of m)))
      (negation-cases (Contains-Id_cases (ids_of m) y)) where
        dependent_cases : ((x : Id) × Contains (ids_of m) x × DependsOn m x y)
            ⊎ ((x : Id) → Contains (ids_of m) x → ¬ DependsOn m x y)
            → ((x : Id) × DependsOn m x y) ⊎ (¬ ((x : Id) × DependsOn m x y))
        dependent_cases (inl found) = inl (found.0, found.2)
        dependent_cases (inr none) = inr (λ d. none d.0 (DependsOn-committed m d.0 y d.1) d.1)

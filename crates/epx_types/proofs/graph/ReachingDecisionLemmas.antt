-- Reaching is decidable, and a finite list has all that an instance reaches.
use Rattle.std.proofs.Common.{◌≡◌, ◌⊎◌, List, [], ◌∷◌, flat_map, Contains, sym, subst, inl, inr}
use Rattle.epx_types.specs.declared.id.Id.{Id}
use Rattle.epx_types.specs.Instances.{Instance}
use Rattle.epx_types.specs.CommittedMap.{ids_of}
use Rattle.epx_types.specs.Reaching.{DependsOn, IsPath, Reaches}
use Rattle.epx_types.specs.Components.{InOneComponent}
use Rattle.epx_types.proofs.lists.MembershipLemmas.{Contains-nil, Contains-head, Contains-cons}
use Rattle.epx_types.proofs.lists.MembershipLemmas.{Contains-cons_cases, Contains-flat_map}
use Rattle.epx_types.proofs.graph.DependencyLemmas.{DependsOn-committed}
use Rattle.epx_types.proofs.graph.ReachingLemmas.{Reaches-dependency, Reaches-trans}
use Rattle.epx_types.proofs.graph.WaitingLemmas.{Id-cases, Contains-Id_cases}
use Rattle.epx_types.proofs.lists.SearchLemmas.{Contains-some_or_none}

-- both properties hold, or not both
pub both-cases : {A B : Type 0} → A ⊎ (¬ A) → B ⊎ (¬ B) → (A × B) ⊎ (¬ (A × B))
both-cases (inl a) (inl b) = inl (a, b)
both-cases (inl a) (inr none) = inr (λ h. none h.1)
both-cases (inr none) b = inr (λ h. none h.0)

-- the negation of a decidable property is decidable
pub negation-cases : {A : Type 0} → A ⊎ (¬ A) → (¬ A) ⊎ (¬ (¬ A))
negation-cases (inl a) = inr (λ none. none a)
negation-cases (inr none) = inl none

module _ (m : List Instance) where
  pub DependsOn-cases : (x y : Id) → DependsOn m x y ⊎ (¬ DependsOn m x y)
  DependsOn-cases x y =
      elim (Contains-some_or_none (λ e. (e.id ≡ x) × Contains e.deps y)
      (λ e. both-cases (Id-cases e.id x) (Contains-Id_cases e.deps y)) m) [
        | inl found ↦ inl (found.0, found.1, found.2.0, found.2.1)
        | inr none ↦ inr (λ d. none d.0 d.1 (d.2, d.3))
      ]

  -- ---- paths through some Ids

  -- a path from x to y only through Ids of the list
  abbrev Via : List Id → Id → Id → Type 0
  Via [] x y = DependsOn m x y
  Via (z ∷ zs) x y = Via zs x y ⊎ (Via zs x z × Via zs z y)

  Via-cases : (zs : List Id) (x y : Id) → Via zs x y ⊎ (¬ Via zs x y)
  Via-cases [] x y = DependsOn-cases x y
  Via-cases (z ∷ zs) x y =
      elim (Via-cases zs x y) [
        | inl past ↦ inl (inl past)
        | inr not_past ↦ elim (both-cases (Via-cases zs x z) (Via-cases zs z y)) [
          | inl through ↦ inl (inr through)
          | inr not_through ↦ inr
              (λ h. elim h [ inl past ↦ not_past past | inr through ↦ not_through through ])
        ]
      ]

  Reaches-from_Via : (zs : List Id) (x y : Id) → Via zs x y → Reaches m x y
  Reaches-from_Via [] x y d = Reaches-dependency m x y d
  Reaches-from_Via (z ∷ zs) x y (inl past) = Reaches-from_Via zs x y past
  Reaches-from_Via (z ∷ zs) x y (inr through) =
      Reaches-trans m x z y (Reaches-from_Via zs x z through.0) (Reaches-from_Via zs z y through.1)

  Via-dependency : (zs : List Id) (x y : Id) → DependsOn m x y → Via zs x y
  Via-dependency [] x y d = d
  Via-dependency (z ∷ zs) x y d = inl (Via-dependency zs x y d)

  -- one more dependency in front of a path from an Id of the list
  Via-step : (zs : List Id) (x v y : Id) → Contains zs v → DependsOn m x v → Via zs v y
      → Via zs x y
  Via-step [] x v y h d on = absurd (Contains-nil v h)
  Via-step (z ∷ zs) x v y h d on =
      elim (Contains-cons_cases z zs v h) [
        | inl same ↦
            let first : Via zs x z = Via-dependency zs x z (subst (DependsOn m x) (sym same) d) in
            elim on [
              | inl past ↦ inr (first, subst (λ (w : Id). Via zs w y) (sym same) past)
              | inr through ↦ inr (first, through.1)
            ]
        | inr later ↦ elim on [
          | inl past ↦ inl (Via-step zs x v y later d past)
          | inr through ↦ inr (Via-step zs x v z later d through.0, through.1)
        ]
      ]

  -- the Ids inside a path are committed
  Via-from_path : (x : Id) (via : List Id) (y : Id) → IsPath m x via y → Via (ids_of m) x y
  Via-from_path x [] y d = Via-dependency (ids_of m) x y d
  Via-from_path x (v ∷ via) y path = Via-step (ids_of m) x v y (from_committed v via path.1) path.0
      (Via-from_path v via y path.1) where
        from_committed : (v : Id) (via : List Id) → IsPath m v via y → Contains (ids_of m) v
        from_committed v [] d = DependsOn-committed m v y d
        from_committed v (w ∷ via) path = DependsOn-committed m v w path.0

  -- ---- reaching

  -- whether an instance reaches another is decidable
  pub Reaches-cases : (x y : Id) → Reaches m x y ⊎ (¬ Reaches m x y)
  Reaches-cases x y =
      elim (Id-cases x y) [
        | inl same ↦ inl (inl same)
        | inr other ↦ elim (Via-cases (ids_of m) x y) [
          | inl there ↦ inl (Reaches-from_Via (ids_of m) x y there)
          | inr none ↦ inr
              (λ h. elim h [
                | inl same ↦ other same
                | inr path ↦ none (Via-from_path x path.0 y path.1)
              ])
        ]
      ]

  pub InOneComponent-cases : (x y : Id) → InOneComponent m x y ⊎ (¬ InOneComponent m x y)
  InOneComponent-cases x y = both-cases (Reaches-cases x y) (Reaches-cases y x)

  -- all that an instance may reach: itself and all dependencies of the map
  pub within_reach : Id → List Id
  within_reach x = x ∷ flat_map (λ e. e.deps) m

  path_end : (x : Id) (via : List Id) (y : Id) → IsPath m x via y
      → Contains (flat_map (λ e. e.deps) m) y
  path_end x [] y d = Contains-flat_map (λ (e : Instance). e.deps) m d.0 y d.1 d.3
  path_end x (v ∷ via) y path = path_end v via y path.1

  -- what it reaches is among these
  pub Contains-within_reach : (x y : Id) → Reaches m x y → Contains (within_reach x) y
  unfolding within_reach
  Contains-within_reach x y (inl same) =
      subst (Contains (x ∷ flat_map (λ e. e.deps) m)) same
      (Contains-head x (flat_map (λ e. e.deps) m))
  Contains-within_reach x y (inr path) =
      Contains-cons x (flat_map (λ e. e.deps) m) y (path_end x path.0 y path.1)

  -- an instance that reaches a different one is committed
  pub Reaches-committed : (x y : Id) → Reaches m x y → ¬ (x ≡ y) → Contains (ids_of m) x
  Reaches-committed x y (inl same) other = absurd (other same)
  Reaches-committed x y (inr ([], d)) other = DependsOn-committed m x y d
  Reaches-committed x y (inr (v ∷ via, path)) other = DependsOn-committed m x v path.0

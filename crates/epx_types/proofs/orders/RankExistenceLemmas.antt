-- Each instance has a leader and a depth. A committed instance is ready or waits for another.
use Rattle.std.proofs.Common.{◌≡◌, ◌⊎◌, ◌≤◌, ◌<◌, ◌+◌, ℕ, zero, suc, List, [], ◌∷◌, length}
use Rattle.std.proofs.Common.{Contains, refl, sym, ap, subst, inl, inr, arith}
use Rattle.epx_types.specs.declared.id.Id.{Id}
use Rattle.epx_types.specs.Ids.{IsRising}
use Rattle.epx_types.specs.Instances.{Instance}
use Rattle.epx_types.specs.CommittedMap.{ids_of, IsCommitted}
use Rattle.epx_types.specs.Reaching.{Reaches}
use Rattle.epx_types.specs.Readiness.{IsReady, WaitsFor}
use Rattle.epx_types.specs.Components.{InOneComponent, IsLeader}
use Rattle.epx_types.specs.Depth.{Descends, IsDepth, FallsOneWay}
use Rattle.epx_types.specs.ExecutionOrder.{Ranked, IsRanked}
use Rattle.epx_types.proofs.lists.MembershipLemmas.{Contains-nil, Contains-cons_cases}
use Rattle.epx_types.proofs.committed.AgreementLemmas.{IsRising-same}
use Rattle.epx_types.proofs.graph.ReachingLemmas.{Reaches-refl, Reaches-trans, InOneComponent-refl}
use Rattle.epx_types.proofs.graph.ReachingLemmas.{Descends-length}
use Rattle.epx_types.proofs.graph.WaitingLemmas.{Contains-Id_cases}
use Rattle.epx_types.proofs.lists.SearchLemmas.{Contains-some_or_none, greatest-exists}
use Rattle.epx_types.proofs.lists.SearchLemmas.{IsLeastOf-or_none}
use Rattle.epx_types.proofs.graph.ReachingDecisionLemmas.{both-cases, negation-cases, Reaches-cases}
use Rattle.epx_types.proofs.graph.ReachingDecisionLemmas.{InOneComponent-cases, within_reach}
use Rattle.epx_types.proofs.graph.ReachingDecisionLemmas.{Contains-within_reach, Reaches-committed}

-- 1 if a decidable property holds, and otherwise 0
indicator : {A : Type 0} → A ⊎ (¬ A) → ℕ
indicator (inl a) = 1
indicator (inr none) = 0

indicator-mono : {A B : Type 0} (a : A ⊎ (¬ A)) (b : B ⊎ (¬ B)) → (A → B)
    → indicator a ≤ indicator b
unfolding indicator
indicator-mono (inl a) (inl b) there = omega arith
indicator-mono (inl a) (inr none) there = absurd (none (there a))
indicator-mono (inr none) (inl b) there = omega arith
indicator-mono (inr none) (inr none') there = omega arith

indicator-less : {A B : Type 0} (a : A ⊎ (¬ A)) (b : B ⊎ (¬ B)) → ¬ A → B
    → indicator a < indicator b
unfolding indicator
indicator-less (inl a) b none here = absurd (none a)
indicator-less (inr none) (inl b) none' here = omega arith
indicator-less (inr none) (inr none'') none' here = absurd (none'' here)

module _ (m : List Instance) where
  -- ---- leaders

  pub IsLeader-exists : (x : Id) → (leader : Id) × IsLeader m x leader
  IsLeader-exists x =
      elim (IsLeastOf-or_none (InOneComponent m x) (InOneComponent-cases m x) (within_reach m x)) [
        | inl found ↦ (
          found.0,
          record {
            member = found.1.0;
            least = λ y one. found.1.1 y (Contains-within_reach m x y one.0) one;
          },
        )
        | inr none ↦ absurd
            (none x (Contains-within_reach m x x (Reaches-refl m x)) (InOneComponent-refl m x))
      ]

  -- ---- readiness

  IsCommitted-cases : (x : Id) → IsCommitted m x ⊎ (¬ IsCommitted m x)
  IsCommitted-cases x = Contains-Id_cases (ids_of m) x

  -- a committed instance is ready, or waits for another
  pub IsReady-or_waits : (x : Id) → IsCommitted m x → IsReady m x ⊎ ((y : Id) × WaitsFor m x y)
  IsReady-or_waits x committed =
      elim (IsLeastOf-or_none (λ y. Reaches m x y × (¬ IsCommitted m y))
      (λ y. both-cases (Reaches-cases m x y) (negation-cases (IsCommitted-cases y)))
      (within_reach m x)) [
        | inl found ↦ inr (
          found.0,
          record {
            committed = committed;
            reached = found.1.0.0;
            missing = found.1.0.1;
            least = λ z there lacks. found.1.1 z (Contains-within_reach m x z there)
                (there, lacks);
          },
        )
        | inr none ↦ inl (record {
          committed = committed;
          complete = λ y there. elim (IsCommitted-cases y) [
            | inl here ↦ here
            | inr lacks ↦ absurd (none y (Contains-within_reach m x y there) (there, lacks))
          ];
        })
      ]

  -- ---- depths

  -- the number of the Ids that x reaches
  reach_count : List Id → Id → ℕ
  reach_count [] x = 0
  reach_count (z ∷ zs) x = indicator (Reaches-cases m x z) + reach_count zs x

  reach_count-reached : (zs : List Id) (x y : Id) → Reaches m x y
      → reach_count zs y ≤ reach_count zs x
  unfolding reach_count
  reach_count-reached [] x y there = omega arith
  reach_count-reached (z ∷ zs) x y there =
      let here = indicator-mono (Reaches-cases m y z) (Reaches-cases m x z)
      (λ on. Reaches-trans m x y z there on) in
      let rest = reach_count-reached zs x y there in
      omega arith

  reach_count-falls : (zs : List Id) (x y : Id) → Contains zs x → Reaches m x y → ¬ Reaches m y x
      → reach_count zs y < reach_count zs x
  unfolding reach_count
  reach_count-falls [] x y h there not_back = absurd (Contains-nil x h)
  reach_count-falls (z ∷ zs) x y h there not_back =
      elim (Contains-cons_cases z zs x h) [
        | inl same ↦
            let here = indicator-less (Reaches-cases m y z) (Reaches-cases m x z)
            (λ back. not_back (subst (Reaches m y) same back)) (inl (sym same)) in
            let rest = reach_count-reached zs x y there in
            omega arith
        | inr later ↦
            let here = indicator-mono (Reaches-cases m y z) (Reaches-cases m x z)
            (λ on. Reaches-trans m x y z there on) in
            let rest = reach_count-falls zs x y later there not_back in
            omega arith
      ]

  reach_count-FallsOneWay : FallsOneWay m (reach_count (ids_of m))
  reach_count-FallsOneWay x y there not_back =
      reach_count-falls (ids_of m) x y
      (Reaches-committed m x y there (λ same. not_back (inl (sym same)))) there not_back

  -- there is a descent of k steps from x
  abbrev HasDescent : Id → ℕ → Type 0
  HasDescent x k = (ys : List Id) × Descends m x ys × (length ys ≡ k)

  -- x reaches y, y does not reach x, and there is a descent of k steps from y
  abbrev DescendsVia : Id → ℕ → Id → Type 0
  DescendsVia x k y = (Reaches m x y × (¬ Reaches m y x)) × HasDescent y k

  HasDescent-cases : (k : ℕ) (x : Id) → HasDescent x k ⊎ (¬ HasDescent x k)
  HasDescent-cases zero x = inl ([], tt, refl)
  HasDescent-cases (suc k) x =
      elim (Contains-some_or_none (DescendsVia x k)
      (λ y. both-cases (both-cases (Reaches-cases m x y) (negation-cases (Reaches-cases m y x)))
      (HasDescent-cases k y)) (within_reach m x)) [
        | inl found ↦ inl (
          found.0 ∷ found.2.1.0,
          (found.2.0.0, found.2.0.1, found.2.1.1),
          omega (arith, found.2.1.2),
        )
        | inr none ↦ inr (λ d. not_longer none d.0 d.1 d.2)
      ]
    where
      not_longer : ((y : Id) → Contains (within_reach m x) y → ¬ DescendsVia x k y)
          → (ys : List Id) → Descends m x ys → length ys ≡ suc k → ⊥
      not_longer none [] d e = absurd (omega arith)
      not_longer none (y ∷ ys) d e =
          none y (Contains-within_reach m x y d.0) ((d.0, d.1), (ys, d.2, omega arith))

  pub IsDepth-exists : (x : Id) → (k : ℕ) × IsDepth m x k
  IsDepth-exists x =
      let most = reach_count (ids_of m) in
      let found = greatest-exists (HasDescent x) (λ k. HasDescent-cases k x) ([], tt, refl)
      (most x) in (
        found.0,
        record {
          descent = found.1;
          longest = λ ys d. found.2 (length ys)
              (Descends-length m most reach_count-FallsOneWay x ys d) (ys, d, refl);
        },
      )

  -- ---- ranks

  -- the rank of a ready instance
  pub IsRanked-exists : IsRising (ids_of m) → (e : Instance) → Contains m e → IsReady m e.id
      → (r : Ranked) × IsRanked m r × (r.id ≡ e.id)
  IsRanked-exists rising e in_e ready =
      let leader = IsLeader-exists e.id in
      let depth = IsDepth-exists e.id in (
        record { id = e.id; seq = e.seq; leader = leader.0; depth = depth.0 },
        record {
          ready = ready;
          seq = λ d in_d is. ap (λ i. i.seq) (IsRising-same m rising d e in_d in_e is);
          leader = leader.1;
          depth = depth.1;
        },
        refl,
      )

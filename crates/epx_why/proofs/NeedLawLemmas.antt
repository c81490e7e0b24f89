-- What waiting instances need, and which instances need a missing one.
use Rattle.std.proofs.Common.{◌≡◌, List, [], ◌∷◌, map, Contains, refl, sym, ap, subst, inl, inr}
use Rattle.epx_types.proofs.Common.{Below, IsRising, UpTo, Instance, IsCommitted, IsPath}
use Rattle.epx_types.proofs.Common.{DependsOn-committed, id_cmp-IsTotalOrder, AllPairs-head}
use Rattle.epx_types.proofs.Common.{Contains-nil}
use Rattle.epx_types.proofs.Common.{Contains-head, Contains-map, Contains-cons_cases}
use Rattle.epx_types.proofs.Common.{AllPairs-from_IsRising, is_lt-asymm, IsReady-or_waits}
use Rattle.epx_types.specs.declared.id.Id.{Id}
use Rattle.epx_why.specs.declared.need.Need.{Need}
use Rattle.epx_why.specs.WhyLaws.{NeedsBeginWithTheMissing, NeedingInstancesWait}
use Rattle.epx_why.proofs.TextExistenceLemmas.{IsDistance-exists}

-- a list of needs that has this one begins with it, if its Id is up to each of them
begins_with : (needs : List Need) (n : Need) → IsRising (map (λ n. n.id) needs)
    → Contains needs n → ((k : Need) → Contains needs k → UpTo n.id k.id)
    → (first : Need) × (rest : List Need) × (needs ≡ first ∷ rest) × (first.id ≡ n.id)
begins_with [] n rising h least = absurd (Contains-nil n h)
begins_with (k ∷ needs) n rising h least =
    elim (Contains-cons_cases k needs n h) [
      | inl same ↦ (k, needs, refl, ap (λ (i : Need). i.id) same)
      | inr later ↦
          let pairs = AllPairs-from_IsRising (map (λ n. n.id) (k ∷ needs)) rising in
          let below = AllPairs-head Below k.id (map (λ n. n.id) needs) n.id pairs
          (Contains-map (λ (i : Need). i.id) needs n later) in
          elim (least k (Contains-head k needs)) [
            | inl same ↦ (k, needs, refl, sym same)
            | inr less ↦ absurd (is_lt-asymm id_cmp-IsTotalOrder k.id n.id below less)
          ]
    ]

pub NeedsBeginWithTheMissing-holds : NeedsBeginWithTheMissing
NeedsBeginWithTheMissing-holds m x missing needs waits are =
    elim waits.reached [
      | inl same ↦ absurd (waits.missing (subst (IsCommitted m) same waits.committed))
      | inr path ↦
          let d = IsDistance-exists m x missing path.0 path.1 in
          begins_with needs (record { id = missing; steps = d.0 }) are.rising
          (are.whole missing d.0 (waits.missing, d.1))
          (λ k h. let need = are.only k h in
          waits.least k.id (inr (need.1.via, need.1.path)) need.0)
    ]

-- an instance with a path is committed
start_committed : (m : List Instance) (x : Id) (via : List Id) (y : Id) → IsPath m x via y
    → IsCommitted m x
start_committed m x [] y d = DependsOn-committed m x y d
start_committed m x (z ∷ via) y path = DependsOn-committed m x z path.0

pub NeedingInstancesWait-holds : NeedingInstancesWait
NeedingInstancesWait-holds m y needing missing are n h =
    let d = are.only n h in
    elim (IsReady-or_waits m n.id (start_committed m n.id d.via y d.path)) [
      | inl ready ↦ absurd (missing (ready.complete y (inr (d.via, d.path))))
      | inr waits ↦ waits
    ]

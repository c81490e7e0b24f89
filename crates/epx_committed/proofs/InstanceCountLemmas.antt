-- Lines have one list of distinct Ids.
use Rattle.std.proofs.Common.{◌≡◌, ◌⊎◌, inl, inr, List, map, length, Contains, ap, ◌∙◌, subst}
use Rattle.std.proofs.Common.{arith}
use Rattle.epx_types.proofs.Common.{cases_lt, ids_of, IsCommittedBy, Instance, Placed}
use Rattle.epx_types.proofs.Common.{id_cmp-IsTotalOrder}
use Rattle.epx_types.proofs.Common.{id_cmp-IsAntisymmetric, Contains-map, Contains-from_map}
use Rattle.epx_types.proofs.Common.{IsRising-from_AllPairs, IsRising-is_unique, AreThose-exists}
use Rattle.epx_types.proofs.Common.{max_instances}
use Rattle.epx_types.specs.declared.id.Id.{Id}
use Rattle.epx_committed.specs.InstanceCounts.{AreNamedBy, FewInstances, ManyInstances}

named_within : (lines : List Placed) (xs ys : List Id) → AreNamedBy lines xs → AreNamedBy lines ys
    → (z : Id) → Contains xs z → Contains ys z
named_within lines xs ys a b z h = let p = a.named z h in subst (Contains ys) p.2 (b.whole p.0 p.1)

-- there is at most one
pub AreNamedBy-is_unique : (lines : List Placed) (xs ys : List Id) → AreNamedBy lines xs
    → AreNamedBy lines ys → xs ≡ ys
AreNamedBy-is_unique lines xs ys a b = IsRising-is_unique xs ys a.rising b.rising
    (named_within lines xs ys a b) (named_within lines ys xs b a)

pub ManyInstances-not_few : (lines : List Placed) → FewInstances lines → ¬ ManyInstances lines
ManyInstances-not_few lines few many =
    omega (arith, few.2, many.2, ap length (AreNamedBy-is_unique lines few.0 many.0 few.1 many.1))

-- there is one
pub AreNamedBy-exists : (lines : List Placed) → (ids : List Id) × AreNamedBy lines ids
AreNamedBy-exists lines =
    let ids =
    AreThose-exists id_cmp-IsTotalOrder id_cmp-IsAntisymmetric (λ _. Unit {0}) (λ _. inl tt)
    (map (λ (p : Placed). p.instance.id) lines) in (
      ids.0,
      record {
        rising = IsRising-from_AllPairs ids.0 ids.1.elements_rise;
        whole = λ p h. ids.1.elements_all p.instance.id
            (Contains-map (λ (q : Placed). q.instance.id) lines p h) tt;
        named = λ x h. Contains-from_map (λ (p : Placed). p.instance.id) lines x
            (ids.1.elements_only x h).0;
      },
    )

pub FewInstances-or_many : (lines : List Placed) → FewInstances lines ⊎ ManyInstances lines
FewInstances-or_many lines =
    let ids = AreNamedBy-exists lines in
    elim (cases_lt max_instances (length ids.0)) [
      | inl many ↦ inr (ids.0, ids.1, many)
      | inr few ↦ inl (ids.0, ids.1, few)
    ]

-- the Ids that lines name are those of the committed instances
pub ids_of-named : (lines : List Placed) (m : List Instance) (ids : List Id)
    → IsCommittedBy lines m → AreNamedBy lines ids → ids ≡ ids_of m
ids_of-named lines m ids committed named =
    IsRising-is_unique ids (ids_of m) named.rising committed.rising
    (λ x h. let p = named.named x h in
    subst (Contains (ids_of m)) p.2
    (Contains-map (λ (e : Instance). e.id) m p.0.instance (committed.whole p.0 p.1)))
    (λ x h.
    let e = Contains-from_map (λ (e : Instance). e.id) m x h in
    let p = committed.given e.0 e.1 in
    subst (Contains ids) (ap (λ (e : Instance). e.id) p.2 ∙ e.2) (named.whole p.0 p.1))

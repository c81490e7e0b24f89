-- The nodes of an execution order have one position each.
use Rattle.std.proofs.Common.{◌≡◌, ℕ, ◌<◌, inl, inr, List, map, length, get_or, slice_get, Some}
use Rattle.std.proofs.Common.{sym, ap, ◌∙◌, arith}
use Rattle.std.proofs.lemmas.Option.{slice_get_cases}
use Rattle.epx_types.proofs.Common.{AllPairs-slice_get, Instance, IsExecutionOrder}
use Rattle.epx_types.proofs.Common.{IsExecutionOrder-once, Ranked, cases_lt, ids_of}
use Rattle.epx_types.proofs.lists.ListPositionLemmas.{slice_get-map}
use Rattle.epx_types.specs.declared.id.Id.{Id}
use Rattle.epx_audit.specs.inner.ReachIndexes.{AreOrderNodes}

some_same : (x y : Id) → Some x ≡ Some y → x ≡ y
some_same x y h = cc

module _ (m : List Instance) (order : List Ranked) (nodes : List ℕ)
    (are : AreOrderNodes m order nodes) (orders : IsExecutionOrder m order) where
  rank_at : (p : ℕ) → p < length nodes → (r : Ranked) × (slice_get order p ≡ Some r)
  rank_at p below = elim (slice_get_cases order p).1 [
    | inl some ↦ (some.0, some.2)
    | inr none ↦ absurd (omega (arith, none.0, below, are.whole))
  ]

  distinct : (p q : ℕ) → p < q → q < length nodes → ¬ (get_or nodes p 0 ≡ get_or nodes q 0)
  distinct p q below in' same =
      let r = rank_at p (omega arith) in
      let s = rank_at q in' in
      let ids : r.0.id ≡ s.0.id = some_same r.0.id s.0.id (sym (are.each p r.0 r.1)
      ∙ (ap (slice_get (ids_of m)) same ∙ are.each q s.0 s.1)) in
      AllPairs-slice_get (λ (x y : Id). ¬ (x ≡ y)) (map (λ (r : Ranked). r.id) order)
      (IsExecutionOrder-once m order orders) p q r.0.id s.0.id below
      (slice_get-map (λ (r : Ranked). r.id) order p r.0 r.1)
      (slice_get-map (λ (r : Ranked). r.id) order q s.0 s.1) ids

  -- positions of one node are equal
  pub get_or-nodes_once : (p q : ℕ) → p < length nodes → q < length nodes
      → get_or nodes p 0 ≡ get_or nodes q 0 → p ≡ q
  get_or-nodes_once p q p_in q_in same = elim (cases_lt p q) [
    | inl below ↦ absurd (distinct p q below q_in same)
    | inr above ↦ elim (cases_lt q p) [
      | inl below ↦ absurd (distinct q p below p_in (sym same))
      | inr up ↦ omega arith
    ]
  ]

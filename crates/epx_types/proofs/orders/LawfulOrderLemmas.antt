-- All lawful orders have related instances in the same order.
use Rattle.std.proofs.Common.{◌≡◌, ◌≢◌, ◌⊎◌, ℕ, List, true, Contains, AllPairs, Some, slice_get}
use Rattle.std.proofs.Common.{refl, sym, ap, ◌∙◌, inl, inr, arith}
use Rattle.std.specs.Cmp.{IsTotalOrder, nat_cmp_total, on_total, then_total}
use Rattle.std.specs.Ordering.{nat_cmp, ordering_then, is_lt}
use Rattle.std.specs.declared.cmp.Ordering.{Ordering}
use Rattle.std.specs.FinMap.{IsAntisymmetric, nat_cmp-IsAntisymmetric}
use Rattle.std.proofs.lemmas.Bool.{cases_lt}
use Rattle.epx_types.specs.declared.id.Id.{Id}
use Rattle.epx_types.specs.Ids.{id_cmp}
use Rattle.epx_types.specs.Instances.{Instance}
use Rattle.epx_types.specs.Reaching.{Reaches}
use Rattle.epx_types.specs.Components.{InOneComponent}
use Rattle.epx_types.specs.LawfulOrders.{Before, SequenceBefore, IsLawful}
use Rattle.epx_types.proofs.lists.MembershipLemmas.{Contains-from_map}
use Rattle.epx_types.proofs.lists.ListPositionLemmas.{Contains-slice_get, slice_get-from_Contains}
use Rattle.epx_types.proofs.lists.ListPositionLemmas.{AllPairs-slice_get}
use Rattle.epx_types.proofs.lists.TotalOrderLemmas.{is_lt-cases}
use Rattle.epx_types.proofs.lists.ComparisonLemmas.{id_cmp-IsTotalOrder, id_cmp-IsAntisymmetric}
use Rattle.epx_types.proofs.lists.ComparisonLemmas.{ordering_then-first_equal}
use Rattle.epx_types.proofs.lists.ComparisonLemmas.{ordering_then-second_equal}

-- by sequence number, then by Id
abbrev sequence_cmp : ℕ × Id → ℕ × Id → Ordering
sequence_cmp a b = ordering_then (nat_cmp a.0 b.0) (id_cmp a.1 b.1)

pub sequence_cmp-IsTotalOrder : IsTotalOrder sequence_cmp
sequence_cmp-IsTotalOrder = then_total (on_total (λ (a : ℕ × Id). a.0) nat_cmp_total)
    (on_total (λ (a : ℕ × Id). a.1) id_cmp-IsTotalOrder)

sequence_cmp-IsAntisymmetric : IsAntisymmetric sequence_cmp
sequence_cmp-IsAntisymmetric a b e =
    let seq = nat_cmp-IsAntisymmetric a.0 b.0 (ordering_then-first_equal _ _ e) in
    let id = id_cmp-IsAntisymmetric a.1 b.1 (ordering_then-second_equal _ _ e) in
    λ i. (seq i, id i)

module _ (ids : List Id) (once : AllPairs (λ x y. x ≢ y) ids) where
  -- in a list without repeats, two positions of one Id are equal
  pub slice_get-is_unique : (i j : ℕ) (x : Id) → slice_get ids i ≡ Some x → slice_get ids j ≡ Some x
      → i ≡ j
  slice_get-is_unique i j x p q =
      elim (cases_lt i j) [
        | inl l ↦ absurd (AllPairs-slice_get (λ v w. v ≢ w) ids once i j x x l p q refl)
        | inr k ↦ elim (cases_lt j i) [
          | inl l ↦ absurd (AllPairs-slice_get (λ v w. v ≢ w) ids once j i x x l q p refl)
          | inr l ↦ omega arith
        ]
      ]

  -- no two Ids of a list without repeats are each before the other
  pub Before-not_both : (x y : Id) → Before ids x y → ¬ Before ids y x
  Before-not_both x y (i, j, l, p, q) (k, n, l', p', q') =
      let first = slice_get-is_unique i n x p q' in
      let second = slice_get-is_unique j k y q p' in
      omega arith

-- of two different Ids of a list, one is before the other
pub Before-cases : (ids : List Id) (x y : Id) → Contains ids x → Contains ids y → x ≢ y
    → Before ids x y ⊎ Before ids y x
Before-cases ids x y in_x in_y differ =
    let a = slice_get-from_Contains ids x in_x in
    let b = slice_get-from_Contains ids y in_y in
    elim (cases_lt a.0 b.0) [
      | inl l ↦ inl (a.0, b.0, l, a.1, b.1)
      | inr k ↦ elim (cases_lt b.0 a.0) [
        | inl l ↦ inr (b.0, a.0, l, b.1, a.1)
        | inr l ↦ absurd (differ (by a.0 b.0 (omega arith) a.1 b.1))
      ]
    ]
  where
    by : (i j : ℕ) → i ≡ j → slice_get ids i ≡ Some x → slice_get ids j ≡ Some y → x ≡ y
    by i j e p q = let same : Some x ≡ Some y = sym p ∙ ap (slice_get ids) e ∙ q in cc

-- an Id that is before another is different from it
pub Before-differ : (ids : List Id) → AllPairs (λ x y. x ≢ y) ids → (x y : Id) → Before ids x y
    → x ≢ y
Before-differ ids once x y (i, j, l, p, q) =
    AllPairs-slice_get (λ v w. v ≢ w) ids once i j x y l p q

pub Before-in_second : (ids : List Id) (x y : Id) → Before ids x y → Contains ids y
Before-in_second ids x y (i, j, l, p, q) = Contains-slice_get ids j y q

pub Before-in_first : (ids : List Id) (x y : Id) → Before ids x y → Contains ids x
Before-in_first ids x y (i, j, l, p, q) = Contains-slice_get ids i x p

module _ (m : List Instance) (ids : List Id) (lawful : IsLawful m ids) where
  -- of two different members, one has the lower sequence number, or the same one and the lower Id
  SequenceBefore-cases : (x y : Id) → Contains ids x → Contains ids y → x ≢ y
      → SequenceBefore m x y ⊎ SequenceBefore m y x
  SequenceBefore-cases x y in_x in_y differ =
      let d = Contains-from_map (λ (e : Instance). e.id) m x (lawful.only x in_x).committed in
      let e = Contains-from_map (λ (e : Instance). e.id) m y (lawful.only y in_y).committed in
      elim (is_lt-cases sequence_cmp-IsTotalOrder sequence_cmp-IsAntisymmetric (d.0.seq, x)
      (e.0.seq, y)) [
        | inl l ↦ inl (before d e l)
        | inr (inl same) ↦ absurd (differ (ap (λ (a : ℕ × Id). a.1) same))
        | inr (inr l) ↦ inr (before e d l)
      ] where
        before : {v w : Id} (f : (i : Instance) × Contains m i × (i.id ≡ v))
            (g : (i : Instance) × Contains m i × (i.id ≡ w))
            → is_lt (ordering_then (nat_cmp f.0.seq g.0.seq) (id_cmp v w)) ≡ true
            → SequenceBefore m v w
        before f g lower = record {
          first = f.0;
          second = g.0;
          first_in = f.1;
          first_is = f.2;
          second_in = g.1;
          second_is = g.2;
          lower = lower;
        }

-- two instances of which one reaches the other are in the same order in each lawful order
module _ (m : List Instance) (ids other : List Id) (lawful : IsLawful m ids)
    (lawful' : IsLawful m other) (x y : Id) (before : Before ids x y) where
  in_x : Contains ids x
  in_x = Before-in_first ids x y before

  in_y : Contains ids y
  in_y = Before-in_second ids x y before

  differ : x ≢ y
  differ = Before-differ ids lawful.once x y before

  in_other_x : Contains other x
  in_other_x = lawful'.whole x (lawful.only x in_x)

  in_other_y : Contains other y
  in_other_y = lawful'.whole y (lawful.only y in_y)

  -- for members of one component
  not_reversed : InOneComponent m x y → ¬ Before other y x
  not_reversed one turned =
      elim (SequenceBefore-cases m ids lawful x y in_x in_y differ) [
        | inl lower ↦ Before-not_both other lawful'.once y x turned
            (lawful'.by_sequence x y in_other_x in_other_y one lower)
        | inr lower ↦ Before-not_both ids lawful.once x y before
            (lawful.by_sequence y x in_y in_x (one.1, one.0) lower)
      ]

  -- if the first reaches the second
  pub Before-alike_reaching : Reaches m x y → Before other x y
  Before-alike_reaching there =
      elim (Before-cases other x y in_other_x in_other_y differ) [
        | inl so ↦ so
        | inr turned ↦ absurd (Before-not_both ids lawful.once x y before
            (lawful.after_reached x y in_x there (λ back. not_reversed (there, back) turned)))
      ]

  -- if the second reaches the first
  pub Before-alike_reached : Reaches m y x → Before other x y
  Before-alike_reached back =
      elim (Before-cases other x y in_other_x in_other_y differ) [
        | inl so ↦ so
        | inr turned ↦ absurd
            (Before-not_both other lawful'.once y x turned
            (lawful'.after_reached y x in_other_y back
            (λ there. not_reversed (there, back) turned)))
      ]

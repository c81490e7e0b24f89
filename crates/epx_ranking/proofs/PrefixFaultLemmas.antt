-- A list is a prefix of a lawful order or has a fault, and it has one alone.
use Rattle.std.proofs.Common.{◌≡◌, ◌≢◌, ◌⊎◌, inl, inr, ℕ, ◌<◌, List, length, Some, Contains, refl}
use Rattle.std.proofs.Common.{sym, ap, ◌∙◌, subst, arith}
use Rattle.epx_types.proofs.Common.{cases_lt, slice_get_within, IsRising, ids_of, InOneComponent}
use Rattle.epx_types.proofs.Common.{Instance, IsLawfulPrefix, SequenceBefore, Reaches}
use Rattle.epx_types.proofs.Common.{IsCommitted-from_Contains, negation-cases, Reaches-cases}
use Rattle.epx_types.proofs.Common.{InOneComponent-cases, IsReady-reached, Id-cases}
use Rattle.epx_types.proofs.Common.{Contains-Id_cases}
use Rattle.epx_types.specs.declared.id.Id.{Id}
use Rattle.epx_ranking.specs.PrefixFaults.{IsTooEarlyAt, IsAfterGapAt, IsOutOfSequenceAt}
use Rattle.epx_ranking.specs.PrefixFaults.{BeginsInOrder, IsPrefixFault}
use Rattle.epx_ranking.specs.OrderFaults.{IsStrangerAt, ReadyOnce}
use Rattle.epx_ranking.specs.declared.order_fault.OrderFault.{OrderFault}
use Rattle.epx_ranking.specs.declared.order_fault.OrderFault.TheVariants.{Memory, Stranger, Repeat}
use Rattle.epx_ranking.specs.declared.order_fault.OrderFault.TheVariants.{Missing, Early, Sequence}
use Rattle.epx_ranking.proofs.PrefixLemmas.{IsLawfulPrefix-from_order}
use Rattle.epx_ranking.proofs.OrderFaultLemmas.{Decided, HasAt, Decided-less, Decided-either}
use Rattle.epx_ranking.proofs.OrderFaultLemmas.{Decided-equivalent}
use Rattle.epx_ranking.proofs.OrderFaultLemmas.{Decided-element, LeastOrNone-holds, Decided-has_at}
use Rattle.epx_ranking.proofs.OrderFaultLemmas.{Decided-place}
use Rattle.epx_ranking.proofs.OrderFaultLemmas.{Decided-sequence, Decided-overtaken}
use Rattle.epx_ranking.proofs.OrderFaultLemmas.{HasWrongPlace-or_once}
use Rattle.epx_ranking.proofs.UniqueFaultLemmas.{IsStrangerOrRepeatAt-is_unique}
use Rattle.epx_ranking.proofs.UniqueFaultLemmas.{ReadyOnce-no_wrong_place, IsRepeatAt-not_stranger}

-- ---- one fault

module _ (m : List Instance) (ids : List Id) where
  abbrev IsWrongAt : ℕ → Type 0
  IsWrongAt k = IsTooEarlyAt m ids k ⊎ IsOutOfSequenceAt m ids k

  not_in_order : (p q : ℕ) → p < q → IsWrongAt p → ¬ BeginsInOrder m ids q
  not_in_order p q l (inl early) order = (order p l).0 early
  not_in_order p q l (inr wrong) order = (order p l).1 wrong

  -- two places where the order is wrong, each the least one, are equal
  one_wrong_place : (i j : ℕ) → IsWrongAt i → BeginsInOrder m ids i → IsWrongAt j
      → BeginsInOrder m ids j → i ≡ j
  one_wrong_place i j wrong order wrong' order' = elim (cases_lt i j) [
    | inl l ↦ absurd (not_in_order i j l wrong order')
    | inr k ↦ elim (cases_lt j i) [
      | inl l ↦ absurd (not_in_order j i l wrong' order)
      | inr l ↦ omega arith
    ]
  ]

  pub IsPrefixFault-is_unique : (f g : OrderFault) → f ≢ Memory → g ≢ Memory → IsPrefixFault m ids f
      → IsPrefixFault m ids g → f ≡ g
  IsPrefixFault-is_unique Memory g nf ng a b = absurd (nf refl)
  IsPrefixFault-is_unique (Missing x) g nf ng a b = absurd a
  IsPrefixFault-is_unique (Stranger i) Memory nf ng a b = absurd (ng refl)
  IsPrefixFault-is_unique (Stranger i) (Stranger j) nf ng a b =
      ap Stranger (IsStrangerOrRepeatAt-is_unique m ids i j (inl a.0) a.1 (inl b.0) b.1)
  IsPrefixFault-is_unique (Stranger i) (Repeat j) nf ng a b =
      absurd (IsRepeatAt-not_stranger m ids j (subst (IsStrangerAt m ids)
      (IsStrangerOrRepeatAt-is_unique m ids i j (inl a.0) a.1 (inr b.0) b.1) a.0) b.0)
  IsPrefixFault-is_unique (Stranger i) (Missing y) nf ng a b = absurd b
  IsPrefixFault-is_unique (Stranger i) (Early j) nf ng a b =
      absurd (ReadyOnce-no_wrong_place m ids i (inl a.0) b.0)
  IsPrefixFault-is_unique (Stranger i) (Sequence j) nf ng a b =
      absurd (ReadyOnce-no_wrong_place m ids i (inl a.0) b.0)
  IsPrefixFault-is_unique (Repeat i) Memory nf ng a b = absurd (ng refl)
  IsPrefixFault-is_unique (Repeat i) (Stranger j) nf ng a b =
      absurd (IsRepeatAt-not_stranger m ids i (subst (IsStrangerAt m ids)
      (IsStrangerOrRepeatAt-is_unique m ids j i (inl b.0) b.1 (inr a.0) a.1) b.0) a.0)
  IsPrefixFault-is_unique (Repeat i) (Repeat j) nf ng a b =
      ap Repeat (IsStrangerOrRepeatAt-is_unique m ids i j (inr a.0) a.1 (inr b.0) b.1)
  IsPrefixFault-is_unique (Repeat i) (Missing y) nf ng a b = absurd b
  IsPrefixFault-is_unique (Repeat i) (Early j) nf ng a b =
      absurd (ReadyOnce-no_wrong_place m ids i (inr a.0) b.0)
  IsPrefixFault-is_unique (Repeat i) (Sequence j) nf ng a b =
      absurd (ReadyOnce-no_wrong_place m ids i (inr a.0) b.0)
  IsPrefixFault-is_unique (Early i) Memory nf ng a b = absurd (ng refl)
  IsPrefixFault-is_unique (Early i) (Stranger j) nf ng a b =
      absurd (ReadyOnce-no_wrong_place m ids j (inl b.0) a.0)
  IsPrefixFault-is_unique (Early i) (Repeat j) nf ng a b =
      absurd (ReadyOnce-no_wrong_place m ids j (inr b.0) a.0)
  IsPrefixFault-is_unique (Early i) (Missing y) nf ng a b = absurd b
  IsPrefixFault-is_unique (Early i) (Early j) nf ng a b =
      ap Early (one_wrong_place i j (inl a.1) a.2 (inl b.1) b.2)
  IsPrefixFault-is_unique (Early i) (Sequence j) nf ng a b =
      absurd (b.2 (subst (IsTooEarlyAt m ids)
      (one_wrong_place i j (inl a.1) a.2 (inr b.1) b.3) a.1))
  IsPrefixFault-is_unique (Sequence i) Memory nf ng a b = absurd (ng refl)
  IsPrefixFault-is_unique (Sequence i) (Stranger j) nf ng a b =
      absurd (ReadyOnce-no_wrong_place m ids j (inl b.0) a.0)
  IsPrefixFault-is_unique (Sequence i) (Repeat j) nf ng a b =
      absurd (ReadyOnce-no_wrong_place m ids j (inr b.0) a.0)
  IsPrefixFault-is_unique (Sequence i) (Missing y) nf ng a b = absurd b
  IsPrefixFault-is_unique (Sequence i) (Early j) nf ng a b =
      absurd (a.2 (subst (IsTooEarlyAt m ids)
      (one_wrong_place j i (inl b.1) b.2 (inr a.1) a.3) b.1))
  IsPrefixFault-is_unique (Sequence i) (Sequence j) nf ng a b =
      ap Sequence (one_wrong_place i j (inr a.1) a.3 (inr b.1) b.3)

-- ---- some fault, or none

module _ (m : List Instance) (ids : List Id) where
  -- the instance at a place before k
  abbrev IsBefore : ℕ → Id → Type 0
  IsBefore k y = (j : ℕ) × (j < k) × HasAt ids (λ z. y ≡ z) j

  abbrev IsReachedLater : ℕ → Id → Id → Type 0
  IsReachedLater k x y = Reaches m x y × (¬ Reaches m y x) × (¬ IsBefore k y)

  three_cases : {A B C : Type 0} → Decided A → Decided B → Decided C → Decided (A × B × C)
  three_cases (inl a) (inl b) (inl c) = inl (a, b, c)
  three_cases (inr no_a) b c = inr (λ h. no_a h.0)
  three_cases (inl a) (inr no_b) c = inr (λ h. no_b h.1)
  three_cases (inl a) (inl b) (inr no_c) = inr (λ h. no_c h.2)

  too_early_cases : ReadyOnce m ids (length ids) → (k : ℕ) → Decided (IsTooEarlyAt m ids k)
  too_early_cases once k =
      Decided-equivalent
      (Decided-has_at ids (λ x. (y : Id) × Contains (ids_of m) y × IsReachedLater k x y)
      (λ x. Decided-element (IsReachedLater k x)
      (λ y. three_cases (Reaches-cases m x y) (negation-cases (Reaches-cases m y x))
      (negation-cases
      (Decided-place ids (λ j. j < k) (λ z. y ≡ z) (λ j. Decided-less j k) (Id-cases y))))
      (ids_of m)) k)
      (λ h. record {
        id = h.0;
        reached = h.2.0;
        here = h.1;
        reaches = h.2.2.0;
        outside = h.2.2.1;
        not_before = λ j l at. h.2.2.2 (j, l, (h.2.0, at, refl));
      })
      (λ early.
      let at = slice_get_within ids k early.id early.here in
      let ready = IsReady-reached m early.id early.reached early.reaches
      (once k early.id at early.here).0 in (
        early.id,
        early.here,
        (
          early.reached,
          ready.committed,
          (
            early.reaches,
            early.outside,
            λ before. early.not_before before.0 before.1
                (before.2.1 ∙ ap Some (sym before.2.2)),
          ),
        ),
      ))

  abbrev IsGapBefore : Id → Id → Type 0
  IsGapBefore y x = InOneComponent m x y × SequenceBefore m x y × (¬ Contains ids x)

  gap_cases : (k : ℕ) → Decided (IsAfterGapAt m ids k)
  gap_cases k =
      Decided-equivalent
      (Decided-has_at ids (λ y. (x : Id) × Contains (ids_of m) x × IsGapBefore y x)
      (λ y. Decided-element (IsGapBefore y)
      (λ x. three_cases (InOneComponent-cases m x y) (Decided-sequence m ids x y)
      (negation-cases (Contains-Id_cases ids x))) (ids_of m)) k)
      (λ h. record {
        id = h.0;
        left_out = h.2.0;
        here = h.1;
        one_component = h.2.2.0;
        by_sequence = h.2.2.1;
        absent = h.2.2.2;
      })
      (λ gap. (
        gap.id,
        gap.here,
        (
          gap.left_out,
          subst (Contains (ids_of m)) gap.by_sequence.first_is
              (IsCommitted-from_Contains m gap.by_sequence.first gap.by_sequence.first_in),
          (gap.one_component, gap.by_sequence, gap.absent),
        ),
      ))

  sequence_wrong_cases : (k : ℕ) → Decided (IsOutOfSequenceAt m ids k)
  sequence_wrong_cases k = Decided-either (Decided-overtaken m ids k) (gap_cases k)

  abbrev pub HasPrefixFault : Type 0
  HasPrefixFault = (fault : OrderFault) × (fault ≢ Memory) × IsPrefixFault m ids fault

  wrong_or_order : ReadyOnce m ids (length ids)
      → HasPrefixFault ⊎ BeginsInOrder m ids (length ids)
  wrong_or_order once =
      elim (LeastOrNone-holds (IsWrongAt m ids)
      (λ k. Decided-either (too_early_cases once k) (sequence_wrong_cases k)) (length ids)) [
        | inl least ↦
            let before : BeginsInOrder m ids least.0 =
            λ i l. (
              (λ early. least.3 i l (inl early)),
              (λ wrong. least.3 i l (inr wrong)),
            ) in
            elim (too_early_cases once least.0) [
              | inl early ↦ inl (Early least.0, (λ same. cc same), (once, early, before))
              | inr not_early ↦ elim least.2 [
                | inl early ↦ absurd (not_early early)
                | inr wrong ↦ inl (
                  Sequence least.0,
                  (λ same. cc same),
                  (once, wrong, not_early, before),
                )
              ]
            ]
        | inr none ↦ inr
            (λ i l. ((λ early. none i l (inl early)), (λ wrong. none i l (inr wrong))))
      ]

  pub IsLawfulPrefix-or_fault : IsRising (ids_of m) → IsLawfulPrefix m ids ⊎ HasPrefixFault
  IsLawfulPrefix-or_fault rising =
      elim (HasWrongPlace-or_once m ids) [
        | inl (k, inl stranger, once) ↦ inr (Stranger k, (λ same. cc same), (stranger, once))
        | inl (k, inr again, once) ↦ inr (Repeat k, (λ same. cc same), (again, once))
        | inr once ↦ elim (wrong_or_order once) [
          | inl fault ↦ inr fault
          | inr order ↦ inl (IsLawfulPrefix-from_order m rising ids once order)
        ]
      ]

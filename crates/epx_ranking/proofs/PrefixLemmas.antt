-- A list is a prefix of a lawful order exactly if it has ready instances, each once, and none
-- is too early or out of sequence.
use Rattle.std.proofs.Common.{◌≡◌, ◌≢◌, ℕ, ◌<◌, inl, inr, List, [], ◌∷◌, ◌++◌, length, not}
use Rattle.std.proofs.Common.{slice_get, Some, refl, sym, subst, ◌∙◌, ap, arith, get_or, Contains}
use Rattle.std.proofs.Common.{AllPairs}
use Rattle.epx_types.proofs.Common.{cases_lt, append-nil, Contains-append_left}
use Rattle.epx_types.proofs.Common.{Contains-append_right, Contains-append_cases, AllPairs-filter}
use Rattle.epx_types.proofs.Common.{slice_get_within, slice_get-get_or, IsRising, ids_of}
use Rattle.epx_types.proofs.Common.{InOneComponent, is_among, remaining_ids, ranked_ids, Instance}
use Rattle.epx_types.proofs.Common.{IsLawfulPrefix, Before, SequenceBefore, IsLawful, Reaches}
use Rattle.epx_types.proofs.Common.{IsReady, IsReady-reached, Contains-Id_cases, Before-append_left}
use Rattle.epx_types.proofs.Common.{Before-append_right, Before-across, Before-filter}
use Rattle.epx_types.proofs.Common.{slice_get-append_left, AllPairs-append, AllPairs-from_slice_get}
use Rattle.epx_types.proofs.Common.{AllPairs-slice_get, Contains-slice_get, slice_get-from_Contains}
use Rattle.epx_types.proofs.Common.{Contains-filter, Contains-from_filter, Contains-head}
use Rattle.epx_types.proofs.Common.{IsExecutionOrder-IsLawful, Before-differ, Before-not_both}
use Rattle.epx_types.proofs.Common.{slice_get-is_unique, remaining_ids-apart, is_among-passes_rest}
use Rattle.epx_types.proofs.Common.{IsExecutionOrder-exists}
use Rattle.epx_types.specs.declared.id.Id.{Id}
use Rattle.epx_ranking.specs.PrefixFaults.{IsTooEarlyAt, IsOutOfSequenceAt}
use Rattle.epx_ranking.specs.PrefixFaults.{BeginsInOrder, IsPrefixFault}
use Rattle.epx_ranking.specs.OrderFaults.{IsEarlyAt, IsOvertakenAt, ReadyOnce, HasAllReady, InOrder}
use Rattle.epx_ranking.specs.OrderFaults.{IsOrderFault}
use Rattle.epx_ranking.specs.declared.order_fault.OrderFault.{OrderFault}
use Rattle.epx_ranking.specs.declared.order_fault.OrderFault.TheVariants.{Memory, Stranger, Repeat}
use Rattle.epx_ranking.specs.declared.order_fault.OrderFault.TheVariants.{Missing, Early, Sequence}
use Rattle.epx_ranking.proofs.LawfulOrderLemmas.{SequenceBefore-irrefl}

-- ---- from places to a lawful order

module _ (m : List Instance) (rising : IsRising (ids_of m)) (ids : List Id)
    (ready : ReadyOnce m ids (length ids)) (order : BeginsInOrder m ids (length ids)) where
  ready_in : (x : Id) → Contains ids x → IsReady m x
  ready_in x h =
      let at = slice_get-from_Contains ids x h in
      (ready at.0 x (slice_get_within ids at.0 x at.1) at.1).0

  listed_once : AllPairs (λ x y. x ≢ y) ids
  listed_once = AllPairs-from_slice_get (λ x y. x ≢ y) ids
      (λ i j x y l at to same. (ready j y (slice_get_within ids j y to) to).1 i l
      (at ∙ ap Some same))

  -- something else that a listed instance reaches is listed before it
  reached_before : (x y : Id) → Contains ids x → Reaches m x y → ¬ Reaches m y x → Before ids y x
  reached_before x y h there back =
      let i = slice_get-from_Contains ids x h in
      let early : ((j : ℕ) → j < i.0 → slice_get ids j ≢ Some y) → IsTooEarlyAt m ids i.0 =
      λ none. record {
        id = x;
        reached = y;
        here = i.1;
        reaches = there;
        outside = back;
        not_before = none;
      } in
      let never = (order i.0 (slice_get_within ids i.0 x i.1)).0 in
      elim (Contains-Id_cases ids y) [
        | inl listed ↦
            let j = slice_get-from_Contains ids y listed in
            elim (cases_lt j.0 i.0) [
              | inl before ↦ (j.0, i.0, before, j.1, i.1)
              | inr upto ↦ elim (cases_lt i.0 j.0) [
                | inl later ↦ absurd
                    (never (early (λ k lower found.
                    (ready j.0 y (slice_get_within ids j.0 y j.1) j.1).1 k
                    (omega (arith, lower, later)) found)))
                | inr other ↦
                    let one : i.0 ≡ j.0 = omega arith in
                    let same : Some x ≡ Some y = sym i.1 ∙ ap (slice_get ids) one ∙ j.1 in
                    absurd (back (inl (sym (cc same))))
              ]
            ]
        | inr none ↦ absurd
            (never (early (λ k lower found. none (Contains-slice_get ids k y found))))
      ]

  -- of two listed members of a component, the one that belongs first is first
  sequence_before : (x y : Id) → Contains ids x → Contains ids y → InOneComponent m x y
      → SequenceBefore m x y → Before ids x y
  sequence_before x y in_x in_y one lower =
      let i = slice_get-from_Contains ids x in_x in
      let j = slice_get-from_Contains ids y in_y in
      elim (cases_lt i.0 j.0) [
        | inl before ↦ (i.0, j.0, before, i.1, j.1)
        | inr upto ↦ elim (cases_lt j.0 i.0) [
          | inl earlier ↦ absurd
              ((order i.0 (slice_get_within ids i.0 x i.1)).1
              (inl (record {
                id = x;
                follower = y;
                here = i.1;
                one_component = one;
                by_sequence = lower;
                earlier = j.0;
                is_earlier = earlier;
                there = j.1;
              })))
          | inr other ↦
              let position : j.0 ≡ i.0 = omega arith in
              let same : Some y ≡ Some x = sym j.1 ∙ ap (slice_get ids) position ∙ i.1 in
              let is_x : y ≡ x = cc same in
              absurd (SequenceBefore-irrefl m rising ids x (subst (SequenceBefore m x) is_x lower))
        ]
      ]

  -- no member that belongs before a listed one is left out
  no_gap : (x y : Id) → ¬ Contains ids x → Contains ids y → InOneComponent m x y
      → ¬ SequenceBefore m x y
  no_gap x y out in_y one lower =
      let j = slice_get-from_Contains ids y in_y in
      (order j.0 (slice_get_within ids j.0 y j.1)).1
      (inr (record {
        id = y;
        left_out = x;
        here = j.1;
        one_component = one;
        by_sequence = lower;
        absent = out;
      }))

  -- the list, followed by the others of a lawful order, is a lawful order
  module _ (whole : List Id) (lawful : IsLawful m whole) where
    abbrev others : List Id
    others = remaining_ids ids whole

    in_whole : (x : Id) → Contains others x → Contains whole x
    in_whole x h = Contains-from_filter (λ y. not (is_among ids y)) whole x h

    out : (x : Id) → Contains others x → ¬ Contains ids x
    out x h = remaining_ids-apart ids whole x h

    rest_before : (x y : Id) → Contains others x → ¬ Contains ids y → Before whole y x
        → Before others y x
    rest_before x y h none before =
        Before-filter (λ z. not (is_among ids z)) whole y x before
        (is_among-passes_rest ids whole y none) (is_among-passes_rest ids whole x (out x h))

    after_reached : (x y : Id) → Contains (ids ++ others) x → Reaches m x y → ¬ Reaches m y x
        → Before (ids ++ others) y x
    after_reached x y h there back =
        elim (Contains-append_cases ids others x h) [
          | inl early ↦ Before-append_left ids others y x (reached_before x y early there back)
          | inr late ↦ elim (Contains-Id_cases ids y) [
            | inl listed ↦ Before-across ids others y x listed late
            | inr none ↦ Before-append_right ids others y x
                (rest_before x y late none
                (lawful.after_reached x y (in_whole x late) there back))
          ]
        ]

    by_sequence : (x y : Id) → Contains (ids ++ others) x → Contains (ids ++ others) y
        → InOneComponent m x y → SequenceBefore m x y → Before (ids ++ others) x y
    by_sequence x y h k one lower =
        elim (Contains-append_cases ids others x h) [
          | inl early ↦ elim (Contains-append_cases ids others y k) [
            | inl too ↦ Before-append_left ids others x y (sequence_before x y early too one lower)
            | inr late ↦ Before-across ids others x y early late
          ]
          | inr late ↦ elim (Contains-append_cases ids others y k) [
            | inl early ↦ absurd (no_gap x y (out x late) early one lower)
            | inr later ↦ Before-append_right ids others x y
                (rest_before y x later (out x late)
                (lawful.by_sequence x y (in_whole x late) (in_whole y later) one lower))
          ]
        ]

    extended : IsLawful m (ids ++ others)
    extended = record {
      once = AllPairs-append (λ x y. x ≢ y) ids others listed_once
          (AllPairs-filter (λ x y. x ≢ y) (λ x. not (is_among ids x)) whole lawful.once)
          (λ x y h k same. out y k (subst (Contains ids) same h));
      only = λ x h. elim (Contains-append_cases ids others x h)
          [ inl early ↦ ready_in x early | inr late ↦ lawful.only x (in_whole x late) ];
      whole = λ x h. elim (Contains-Id_cases ids x) [
        | inl listed ↦ Contains-append_left ids others x listed
        | inr none ↦ Contains-append_right ids others x
            (Contains-filter (λ y. not (is_among ids y)) whole x (lawful.whole x h)
            (is_among-passes_rest ids whole x none))
      ];
      after_reached = after_reached;
      by_sequence = by_sequence;
    }

  pub IsLawfulPrefix-from_order : IsLawfulPrefix m ids
  IsLawfulPrefix-from_order =
      let order = IsExecutionOrder-exists m rising in
      let whole = ranked_ids order.0 in
      (remaining_ids ids whole, extended whole (IsExecutionOrder-IsLawful m order.0 order.1))

-- ---- a list with all ready instances

module _ (m : List Instance) (ids : List Id) (whole : HasAllReady m ids) where
  module _ (once : ReadyOnce m ids (length ids)) where
    ready_at : (i : ℕ) (x : Id) → slice_get ids i ≡ Some x → IsReady m x
    ready_at i x at = (once i x (slice_get_within ids i x at) at).0

    early_from_too_early : (i : ℕ) → IsTooEarlyAt m ids i → IsEarlyAt m ids i
    early_from_too_early i early =
        let x = early.id in
        let y = early.reached in
        let j = slice_get-from_Contains ids y
        (whole y (IsReady-reached m x y early.reaches (ready_at i x early.here))) in
        elim (cases_lt j.0 i) [
          | inl lower ↦ absurd (early.not_before j.0 lower j.1)
          | inr upto ↦ elim (cases_lt i j.0) [
            | inl later ↦ record {
              id = x;
              reached = y;
              here = early.here;
              reaches = early.reaches;
              outside = early.outside;
              later = j.0;
              is_later = later;
              there = j.1;
            }
            | inr other ↦
                let one : i ≡ j.0 = omega arith in
                let same : Some x ≡ Some y = sym early.here ∙ ap (slice_get ids) one ∙ j.1 in
                absurd (early.outside (inl (sym (cc same))))
          ]
        ]

    too_early_from_early : (i : ℕ) → IsEarlyAt m ids i → IsTooEarlyAt m ids i
    too_early_from_early i early = record {
      id = early.id;
      reached = early.reached;
      here = early.here;
      reaches = early.reaches;
      outside = early.outside;
      not_before = λ j lower found.
          (once early.later early.reached
          (slice_get_within ids early.later early.reached early.there) early.there).1 j
          (omega (arith, lower, early.is_later)) found;
    }

    overtaken_from_sequence : (i : ℕ) → IsOutOfSequenceAt m ids i → IsOvertakenAt m ids i
    overtaken_from_sequence i (inl overtaken) = overtaken
    overtaken_from_sequence i (inr gap) = absurd
        (gap.absent (whole gap.left_out
        (IsReady-reached m gap.id gap.left_out gap.one_component.1 (ready_at i gap.id gap.here))))

    pub InOrder-from_prefix : (n : ℕ) → BeginsInOrder m ids n → InOrder m ids n
    InOrder-from_prefix n order i l = (
      (λ early. (order i l).0 (too_early_from_early i early)),
      (λ overtaken. (order i l).1 (inl overtaken)),
    )

    prefix_order_from : (n : ℕ) → InOrder m ids n → BeginsInOrder m ids n
    prefix_order_from n order i l = (
      (λ early. (order i l).0 (early_from_too_early i early)),
      (λ wrong. (order i l).1 (overtaken_from_sequence i wrong)),
    )

  -- it has the same fault as a prefix and as an order
  pub IsOrderFault-from_prefix : (f : OrderFault) → IsPrefixFault m ids f → IsOrderFault m ids f
  IsOrderFault-from_prefix Memory h = tt
  IsOrderFault-from_prefix (Stranger i) h = h
  IsOrderFault-from_prefix (Repeat i) h = h
  IsOrderFault-from_prefix (Missing x) h = absurd h
  IsOrderFault-from_prefix (Early i) h =
      ((h.0, whole), early_from_too_early h.0 i h.1, InOrder-from_prefix h.0 i h.2)
  IsOrderFault-from_prefix (Sequence i) h = (
    (h.0, whole),
    overtaken_from_sequence h.0 i h.1,
    (λ early. h.2 (too_early_from_early h.0 i early)),
    InOrder-from_prefix h.0 i h.3,
  )

  pub IsPrefixFault-from_order : (f : OrderFault) → IsOrderFault m ids f → IsPrefixFault m ids f
  IsPrefixFault-from_order Memory h = tt
  IsPrefixFault-from_order (Stranger i) h = h
  IsPrefixFault-from_order (Repeat i) h = h
  IsPrefixFault-from_order (Missing x) h = absurd (h.2 (whole x h.1))
  IsPrefixFault-from_order (Early i) h =
      (h.0.0, too_early_from_early h.0.0 i h.1, prefix_order_from h.0.0 i h.2)
  IsPrefixFault-from_order (Sequence i) h = (
    h.0.0,
    inl h.1,
    (λ early. h.2 (early_from_too_early h.0.0 i early)),
    prefix_order_from h.0.0 i h.3,
  )

  -- it is a lawful order if it is a prefix of one
  pub IsLawful-from_prefix : IsLawfulPrefix m ids → IsLawful m ids
  IsLawful-from_prefix prefix = by prefix.0 prefix.1 where
    by : (rest : List Id) → IsLawful m (ids ++ rest) → IsLawful m ids
    by [] lawful = subst (IsLawful m) (append-nil ids) lawful
    by (x ∷ rest) lawful =
        let last = Contains-append_right ids (x ∷ rest) x (Contains-head x rest) in
        absurd
        (Before-differ (ids ++ x ∷ rest) lawful.once x x
        (Before-across ids (x ∷ rest) x x (whole x (lawful.only x last)) (Contains-head x rest))
        refl)

pub IsLawfulPrefix-from_lawful : (m : List Instance) (ids : List Id) → IsLawful m ids
    → IsLawfulPrefix m ids
IsLawfulPrefix-from_lawful m ids lawful = ([], subst (IsLawful m) (sym (append-nil ids)) lawful)

-- ---- a prefix of a lawful order has no fault

module _ (m : List Instance) (ids rest : List Id) (lawful : IsLawful m (ids ++ rest)) where
  in_order : (i : ℕ) (x : Id) → slice_get ids i ≡ Some x → slice_get (ids ++ rest) i ≡ Some x
  in_order i x at = slice_get-append_left ids rest i x at

  ready_of : (i : ℕ) (x : Id) → slice_get ids i ≡ Some x → IsReady m x
  ready_of i x at =
      lawful.only x (Contains-slice_get (ids ++ rest) i x (in_order i x at))

  -- what is before a listed instance is listed before it
  listed_before : (i : ℕ) (x y : Id) → slice_get ids i ≡ Some x → Before (ids ++ rest) y x
      → (j : ℕ) × (j < i) × (slice_get ids j ≡ Some y)
  listed_before i x y at (a, b, l, at_a, at_b) =
      let same : b ≡ i =
      slice_get-is_unique (ids ++ rest) lawful.once b i x at_b (in_order i x at) in
      let within = slice_get_within ids i x at in
      let there = slice_get-get_or ids a x (omega (arith, l, same, within)) in
      (a, omega (arith, l, same), there ∙ sym (in_order a (get_or ids a x) there) ∙ at_a)

  not_too_early : (i : ℕ) → ¬ IsTooEarlyAt m ids i
  not_too_early i early =
      let x = early.id in
      let y = early.reached in
      let before = listed_before i x y early.here
      (lawful.after_reached x y
      (Contains-slice_get (ids ++ rest) i x (in_order i x early.here)) early.reaches
      early.outside) in
      early.not_before before.0 before.1 before.2

  not_out_of_sequence : (i : ℕ) → ¬ IsOutOfSequenceAt m ids i
  not_out_of_sequence i (inl overtaken) =
      let x = overtaken.id in
      let y = overtaken.follower in
      let at = in_order i x overtaken.here in
      let to = in_order overtaken.earlier y overtaken.there in
      Before-not_both (ids ++ rest) lawful.once y x
      (overtaken.earlier, i, overtaken.is_earlier, to, at)
      (lawful.by_sequence x y (Contains-slice_get (ids ++ rest) i x at)
      (Contains-slice_get (ids ++ rest) overtaken.earlier y to) overtaken.one_component
      overtaken.by_sequence)
  not_out_of_sequence i (inr gap) =
      let x = gap.left_out in
      let y = gap.id in
      let ready = ready_of i y gap.here in
      let before = listed_before i y x gap.here
      (lawful.by_sequence x y (lawful.whole x (IsReady-reached m y x gap.one_component.1 ready))
      (lawful.whole y ready) gap.one_component gap.by_sequence) in
      gap.absent (Contains-slice_get ids before.0 x before.2)

  no_fault : (f : OrderFault) → f ≢ Memory → ¬ IsPrefixFault m ids f
  no_fault Memory nf h = nf refl
  no_fault (Stranger i) nf (stranger, once) =
      stranger.waits (ready_of i stranger.id stranger.here)
  no_fault (Repeat i) nf (again, once) =
      AllPairs-slice_get (λ x y. x ≢ y) (ids ++ rest) lawful.once again.earlier i again.id
      again.id again.is_earlier (in_order again.earlier again.id again.there)
      (in_order i again.id again.here) refl
  no_fault (Missing x) nf h = h
  no_fault (Early i) nf h = not_too_early i h.1
  no_fault (Sequence i) nf h = not_out_of_sequence i h.1

pub IsPrefixFault-not_lawful : (m : List Instance) (ids : List Id) (f : OrderFault) → f ≢ Memory
    → IsLawfulPrefix m ids → ¬ IsPrefixFault m ids f
IsPrefixFault-not_lawful m ids f nf prefix = no_fault m ids prefix.0 prefix.1 f nf

-- Rows of calls: in the order of the calls, sorted, and found.
use Rattle.std.proofs.Common.{◌≡◌, ◌≢◌, inl, inr, ℕ, ◌+◌, ◌<◌, Bool, false, List, [], ◌∷◌}
use Rattle.std.proofs.Common.{◌++◌, length, map, take, get_or, Some, slice_get}
use Rattle.std.proofs.Common.{Contains, AllPairs, HoldsAt, IsPermutation, nat_cmp, is_lt, refl, sym}
use Rattle.std.proofs.Common.{ap, ap₂, subst, ◌∙◌, arith, Less, Equal, Greater}
use Rattle.std.specs.Cmp.{IsTotalOrder, nat_cmp_total, on_total, then_total, tied_itself}
use Rattle.std.specs.List.Sorted.{IsSorted, IsSortedByKey, IsNonDecreasingBy, IsPartitionPoint}
use Rattle.std.specs.Ordering.{ordering_index}
use Rattle.std.specs.declared.cmp.Ordering.{Ordering}
use Rattle.std.proofs.lemmas.List.Sorted.{searchable_from_sorted}
use Rattle.epx_types.proofs.Common.{ordering_then, ordering_reverse, ranks_by, sorted_far}
use Rattle.epx_types.proofs.Common.{cases_lt, length_push, map_push, take_more}
use Rattle.epx_types.proofs.Common.{get_or_append_left, get_or_push, slice_get_within}
use Rattle.epx_types.proofs.Common.{slice_get-get_or, get_or_from_slice_get}
use Rattle.epx_types.proofs.Common.{AllPairs-slice_get, AllPairs-from_slice_get}
use Rattle.epx_types.proofs.Common.{slice_get-from_map, slice_get-from_Contains, Contains-slice_get}
use Rattle.epx_types.proofs.Common.{Contains-permutation, IsPermutation-sym}
use Rattle.epx_types.proofs.Common.{id_cmp, id_cmp-IsTotalOrder, id_cmp-IsAntisymmetric, Below}
use Rattle.epx_types.proofs.Common.{IsRising}
use Rattle.epx_types.proofs.Common.{IsRising-from_AllPairs, AllPairs-from_rising_ids}
use Rattle.epx_types.proofs.Common.{is_lt-asymm, cases_Bool, Contains-from_map}
use Rattle.epx_types.proofs.lists.RisingIdLemmas.{slice_get-rising_is_unique}
use Rattle.epx_types.proofs.lists.ListPositionLemmas.{slice_get-map}
use Rattle.epx_types.specs.declared.id.Id.{Id}
use Rattle.epx_linear.specs.declared.call_table.CallRow.{CallRow}
use Rattle.epx_linear.specs.declared.client_call.ClientCall.{ClientCall}
use Rattle.epx_linear.specs.inner.HistoryReadings.{called_ids}
use Rattle.epx_linear.specs.inner.CallRows.{AreCallRows, AreRowsInOrder}

-- ---- numbered items

-- each item has its position as its place
abbrev pub AreNumbered : {X : Type 0} → (X → ℕ) → List X → Type 0
AreNumbered {X} place xs = (k : ℕ) (x : X) → slice_get xs k ≡ Some x → place x ≡ k

-- one more item
pub AreNumbered-push : {X : Type 0} (place : X → ℕ) (xs : List X) (x : X) → AreNumbered place xs
    → place x ≡ length xs → AreNumbered place (xs ++ x ∷ [])
AreNumbered-push {X} place xs x are at k y found =
    let within : k < length xs + 1 = omega (
      arith,
      slice_get_within (xs ++ x ∷ []) k y found,
      length_push xs x,
    ) in
    let read : get_or (xs ++ x ∷ []) k x ≡ y = get_or_from_slice_get (xs ++ x ∷ []) k y x found in
    elim (cases_lt k (length xs)) [
      | inl before ↦ are k y
          (slice_get-get_or xs k x before
          ∙ ap Some (sym (get_or_append_left xs (x ∷ []) x k before) ∙ read))
      | inr last ↦
          let here : k ≡ length xs = omega (arith, within, last) in
          let same : x ≡ y = sym (get_or_push xs x x k (sym here)) ∙ read in
          ap place (sym same) ∙ at ∙ sym here
    ]

-- ---- rows

-- the row of one more call
pub map-push_row : (calls : List ClientCall) (i : ℕ) (d : ClientCall) → i < length calls
    → (rows : List CallRow) → map (λ r. r.id) rows ≡ called_ids (take i calls)
    → map (λ r. r.id) (rows ++ record { id = (get_or calls i d).id; at = i } ∷ [])
    ≡ called_ids (take (i + 1) calls)
map-push_row calls i d within rows named =
    map_push (λ (r : CallRow). r.id) rows (record { id = (get_or calls i d).id; at = i })
    ∙ ap (λ (l : List Id). l ++ (get_or calls i d).id ∷ []) named
    ∙ sym (ap called_ids (take_more calls i d within)
    ∙ map_push (λ (c : ClientCall). c.id) (take i calls) (get_or calls i d))

pub AreCallRows-in_order : (ids : List Id) (rows : List CallRow) → AreRowsInOrder ids rows
    → AreCallRows ids rows
AreCallRows-in_order ids rows are = record {
  each = λ r has.
      let from = slice_get-from_Contains rows r has in
      subst (λ k. slice_get ids k ≡ Some r.id) (sym (are.places from.0 r from.1))
      (subst (λ (l : List Id). slice_get l from.0 ≡ Some r.id) are.named
      (slice_get-map (λ (r : CallRow). r.id) rows from.0 r from.1));
  whole = λ k x at.
      let from = slice_get-from_map (λ (r : CallRow). r.id) rows k x
      (subst (λ (l : List Id). slice_get l k ≡ Some x) (sym are.named) at) in
      let same : from.0 ≡ record { id = x; at = k } =
      ap₂ (λ (y : Id) (j : ℕ). record { id = y; at = j }) from.2 (are.places k from.0 from.1) in
      subst (Contains rows) same (Contains-slice_get rows k from.0 from.1);
}

pub AreCallRows-permutation : (ids : List Id) (old new : List CallRow) → AreCallRows ids old
    → IsPermutation old new → AreCallRows ids new
AreCallRows-permutation ids old new are moved = record {
  each = λ r has. are.each r (Contains-permutation new old r (IsPermutation-sym old new moved) has);
  whole = λ k x at. Contains-permutation old new _ moved (are.whole k x at);
}

abbrev pub row_cmp : CallRow → CallRow → Ordering
row_cmp a b = ordering_then (id_cmp a.id b.id) (nat_cmp a.at b.at)

row_cmp_total : IsTotalOrder row_cmp
row_cmp_total =
    then_total (on_total (λ (r : CallRow). r.id) id_cmp-IsTotalOrder)
    (on_total (λ (r : CallRow). r.at) nat_cmp_total)

abbrev lower_row : CallRow → CallRow → Bool
lower_row a b = is_lt (row_cmp a b)

-- a row that is not below another, and of another instance, has the greater Id
greater_id : (a b : CallRow) → a.id ≢ b.id → is_lt (row_cmp b a) ≡ false → Below a.id b.id
greater_id a b apart not_below =
    elim (id_cmp b.id a.id) as (λ r. id_cmp b.id a.id ≡ r → Below a.id b.id) [
      | Less ↦ λ e. absurd (cc (e, not_below))
      | Equal ↦ λ e. absurd (apart (sym (id_cmp-IsAntisymmetric b.id a.id e)))
      | Greater ↦ λ e. ap is_lt (id_cmp-IsTotalOrder.antisymm a.id b.id ∙ ap ordering_reverse e)
    ] refl

-- the Ids of sorted rows rise, if no two are equal
pub IsRising-sorted : (rows : List CallRow) → AllPairs (λ x y. x ≢ y) (map (λ r. r.id) rows)
    → IsSorted row_cmp rows → IsRising (map (λ r. r.id) rows)
IsRising-sorted rows apart sorted =
    IsRising-from_AllPairs (map (λ (r : CallRow). r.id) rows)
    (AllPairs-from_slice_get Below (map (λ (r : CallRow). r.id) rows) (λ i j x y less at to.
    let a = slice_get-from_map (λ (r : CallRow). r.id) rows i x at in
    let b = slice_get-from_map (λ (r : CallRow). r.id) rows j y to in
    let far = sorted_far lower_row (ranks_by row_cmp_total (λ r. r)) rows sorted i j a.0
    (omega (arith, less)) (slice_get_within rows j b.0 b.1) in
    let level : is_lt (row_cmp b.0 a.0) ≡ false =
    sym (ap₂ lower_row (get_or_from_slice_get rows j b.0 a.0 b.1)
    (get_or_from_slice_get rows i a.0 a.0 a.1)) ∙ far in
    let other : a.0.id ≢ b.0.id = λ same.
    AllPairs-slice_get (λ x y. x ≢ y) (map (λ (r : CallRow). r.id) rows) apart i j x y less at to
    (sym a.2 ∙ same ∙ b.2) in
    ap₂ (λ v w. is_lt (id_cmp v w)) (sym a.2) (sym b.2) ∙ greater_id a.0 b.0 other level))

module _ (ids : List Id) (rows : List CallRow) (are : AreCallRows ids rows)
    (rising : IsRising (map (λ r. r.id) rows)) where
  -- no two Ids are equal if those of the rows rise
  pub AllPairs-by_rows : AllPairs (λ x y. x ≢ y) ids
  AllPairs-by_rows = AllPairs-from_slice_get (λ x y. x ≢ y) ids (λ i j x y less at to same.
      let first : CallRow = record { id = x; at = i } in
      let second : CallRow = record { id = x; at = j } in
      let p = slice_get-from_Contains rows first (are.whole i x at) in
      let q = slice_get-from_Contains rows second
      (are.whole j x (to ∙ ap Some (sym same))) in
      let one : p.0 ≡ q.0 =
      slice_get-rising_is_unique (map (λ (r : CallRow). r.id) rows) rising p.0 q.0 x
      (slice_get-map (λ (r : CallRow). r.id) rows p.0 first p.1)
      (slice_get-map (λ (r : CallRow). r.id) rows q.0 second q.1) in
      let both : Some first ≡ Some second =
      sym p.1 ∙ ap (slice_get rows) one ∙ q.1 in
      let row : first ≡ second = cc both in
      omega (arith, less, ap (λ (r : CallRow). r.at) row))

-- a default row, read past the end of a list
abbrev pub no_row : CallRow
no_row = record { id = record { replica = 0; number = 0 }; at = 0 }

-- ---- found by binary search

module _ (rows : List CallRow) (rising : IsRising (map (λ r. r.id) rows)) (x : Id) where
  sorted_by_id : IsSortedByKey (λ r. r.id) id_cmp rows
  sorted_by_id k d low within =
      let below : Below (get_or rows k d).id (get_or rows (k + 1) d).id =
      AllPairs-from_rising_ids (λ (r : CallRow). r.id) rows rising k (k + 1) d (omega arith)
      within in
      elim (cases_Bool (is_lt (id_cmp (get_or rows (k + 1) d).id (get_or rows k d).id))) [
        | inl back ↦ absurd
            (is_lt-asymm id_cmp-IsTotalOrder (get_or rows k d).id (get_or rows (k + 1) d).id below
            back)
        | inr level ↦ level
      ]

  -- no row has the Id if all before an index have lower Ids and all others greater ones
  pub Contains-no_row : (i : ℕ) → (IsNonDecreasingBy (λ r. ordering_index (id_cmp r.id x)) rows
      → IsPartitionPoint (λ r. id_cmp r.id x ≡ Less) (λ r. id_cmp r.id x ≡ Greater) rows i)
      → ¬ Contains (map (λ r. r.id) rows) x
  Contains-no_row i parts h =
      let point =
      parts (searchable_from_sorted id_cmp-IsTotalOrder (λ (r : CallRow). r.id) rows x
      sorted_by_id) in
      let at = Contains-from_map (λ (r : CallRow). r.id) rows x h in
      let k = at.1.0 in
      let tie : id_cmp (get_or rows k at.0).id x ≡ Equal =
      ap (λ (r : CallRow). id_cmp r.id x) at.1.2 ∙ ap (λ y. id_cmp y x) at.2
      ∙ tied_itself id_cmp-IsTotalOrder x in
      elim (cases_lt k i) [
        | inl l ↦ let less = point.0 k at.0 (omega arith) l in absurd (cc (less, tie))
        | inr m ↦ let more = point.1 k at.0 m at.1.1 in absurd (cc (more, tie))
      ]

  -- a row with an equal Id has the Id
  pub Contains-row_at : (k : ℕ) (d : CallRow) → k < length rows
      → HoldsAt (λ r. id_cmp r.id x ≡ Equal) rows k
      → Contains rows (get_or rows k d) × ((get_or rows k d).id ≡ x)
  Contains-row_at k d within h = (
    Contains-slice_get rows k (get_or rows k d) (slice_get-get_or rows k d within),
    id_cmp-IsAntisymmetric (get_or rows k d).id x (h d),
  )

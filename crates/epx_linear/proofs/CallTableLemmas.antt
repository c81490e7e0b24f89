-- Calls of a history found by the positions of their instances.
use Rattle.std.proofs.Common.{◌≡◌, ◌≢◌, ℕ, List, map, get_or, Option, Some, None}
use Rattle.std.proofs.Common.{slice_get, option_and_then, AllPairs, Contains, position, refl, sym}
use Rattle.std.proofs.Common.{ap, ◌∙◌, subst}
use Rattle.std.proofs.lemmas.List.Quantifiers.{position-Some}
use Rattle.std.proofs.lemmas.Option.{slice_get-get_or}
use Rattle.epx_types.proofs.Common.{id_eq-Decides, IsRising, AllPairs-slice_get}
use Rattle.epx_types.proofs.Common.{AllPairs-from_slice_get}
use Rattle.epx_types.proofs.lists.ListPositionLemmas.{slice_get-map}
use Rattle.epx_types.proofs.Common.{slice_get-from_Contains, slice_get-from_map, Contains-map}
use Rattle.epx_types.proofs.Common.{Contains-slice_get}
use Rattle.epx_types.specs.declared.id.Id.{Id}
use Rattle.epx_linear.specs.declared.client_call.ClientCall.{ClientCall}
use Rattle.epx_linear.specs.ClientCalls.{IsHistory, call_of}
use Rattle.epx_linear.specs.declared.call_table.CallRow.{CallRow}
use Rattle.epx_linear.specs.inner.CallRows.{AreCallRows, id_position}
use Rattle.epx_linear.specs.inner.HistoryReadings.{called_ids}
use Rattle.epx_linear.proofs.SpanLemmas.{same_id, AllPairs-call_ids}
use Rattle.epx_linear.proofs.CallRowLemmas.{AllPairs-by_rows}
use Rattle.epx_linear.proofs.RankLemmas.{call_of-found, call_of-finds, position-slice_get}

pub slice_get-at_position : (ids : List Id) (x : Id) (k : ℕ) → Some k ≡ position (same_id x) ids
    → slice_get ids k ≡ Some x
slice_get-at_position ids x k found =
    let passes = position-Some (same_id x) ids k x (sym found) in
    let y : Id = get_or ids k x in
    let named : x ≡ y = (id_eq-Decides x y).0 passes.1 in
    slice_get-get_or ids k x passes.0 ∙ ap Some (sym named)

-- ---- found among rows

module _ (ids : List Id) (rows : List CallRow) (are : AreCallRows ids rows)
    (rising : IsRising (map (λ r. r.id) rows)) (x : Id) where
  pub id_position-row : (r : CallRow) → Contains rows r → r.id ≡ x → Some r.at ≡ id_position ids x
  id_position-row r has named =
      sym (position-slice_get ids (AllPairs-by_rows ids rows are rising) x r.at
      (are.each r has ∙ ap Some named))

  pub id_position-no_row : (¬ Contains (map (λ r. r.id) rows) x) → None ≡ id_position ids x
  id_position-no_row absent = by (id_position ids x) refl where
    by : (o : Option ℕ) → id_position ids x ≡ o → None ≡ id_position ids x
    by None e = sym e
    by (Some k) e = absurd (absent
        (Contains-map (λ (r : CallRow). r.id) rows (record { id = x; at = k })
        (are.whole k x (slice_get-at_position ids x k (sym e)))))

-- the calls of rows that rise are a history
pub IsHistory-by_rows : (h : List ClientCall) (rows : List CallRow)
    → AreCallRows (called_ids h) rows → IsRising (map (λ r. r.id) rows) → IsHistory h
IsHistory-by_rows h rows are rising =
    AllPairs-from_slice_get (λ (a b : ClientCall). a.id ≢ b.id) h (λ i j a b less at to.
    AllPairs-slice_get (λ x y. x ≢ y) (called_ids h)
    (AllPairs-by_rows (called_ids h) rows are rising) i j a.id b.id less
    (slice_get-map (λ (c : ClientCall). c.id) h i a at)
    (slice_get-map (λ (c : ClientCall). c.id) h j b to))

-- ---- calls

pub Contains-no_position : (ids : List Id) → AllPairs (λ x y. x ≢ y) ids → (x : Id)
    → None ≡ position (same_id x) ids → ¬ Contains ids x
Contains-no_position ids once x none has =
    let at = slice_get-from_Contains ids x has in
    let both : None ≡ Some at.0 = none ∙ position-slice_get ids once x at.0 at.1 in
    cc both

module _ (h : List ClientCall) (history : IsHistory h) where
  -- the call at the place of an instance is its call
  pub call_of-from_position : (x : Id)
      → option_and_then (slice_get h) (id_position (called_ids h) x) ≡ call_of h x
  call_of-from_position x = by (id_position (called_ids h) x) refl where
    called : (o : Option ClientCall) → call_of h x ≡ o → None ≡ id_position (called_ids h) x
        → None ≡ call_of h x
    called None e none = sym e
    called (Some c) e none =
        let found = call_of-found h x c e in
        let has : Contains (called_ids h) x =
        subst (Contains (called_ids h)) found.1 (Contains-map (λ (c : ClientCall). c.id) h c
        found.0) in
        absurd (Contains-no_position (called_ids h) (AllPairs-call_ids h history) x none has)

    by : (o : Option ℕ) → id_position (called_ids h) x ≡ o
        → option_and_then (slice_get h) (id_position (called_ids h) x) ≡ call_of h x
    by None e = ap (option_and_then (slice_get h)) e ∙ called (call_of h x) refl (sym e)
    by (Some k) e =
        let call = slice_get-from_map (λ (c : ClientCall). c.id) h k x
        (slice_get-at_position (called_ids h) x k (sym e)) in
        ap (option_and_then (slice_get h)) e ∙ call.1
        ∙ sym (ap (call_of h) (sym call.2)
        ∙ call_of-finds h history call.0 (Contains-slice_get h k call.0 call.1))

-- Calls that return later are a history as before.
use Rattle.std.proofs.Common.{◌≡◌, ◌≢◌, ℕ, List, [], ◌∷◌, map, refl, ap, ◌∙◌, sym}
use Rattle.epx_types.proofs.Common.{AllPairs-slice_get, AllPairs-from_slice_get}
use Rattle.epx_types.proofs.Common.{slice_get-from_map}
use Rattle.epx_types.specs.declared.id.Id.{Id}
use Rattle.epx_linear.specs.declared.client_call.ClientCall.{ClientCall}
use Rattle.epx_linear.specs.ClientCalls.{IsHistory}
use Rattle.epx_linear.specs.Skews.{later_by}
use Rattle.epx_linear.specs.inner.HistoryReadings.{called_ids}

pub IsHistory-later_by : (skew : ℕ) (h : List ClientCall) → IsHistory h
    → IsHistory (map (later_by skew) h)
IsHistory-later_by skew h history =
    AllPairs-from_slice_get (λ (a b : ClientCall). a.id ≢ b.id) (map (later_by skew) h)
    (λ i j a b less at to same.
    let before = slice_get-from_map (later_by skew) h i a at in
    let after = slice_get-from_map (later_by skew) h j b to in
    AllPairs-slice_get (λ (a b : ClientCall). a.id ≢ b.id) h history i j before.0 after.0 less
    before.1 after.1
    (ap (λ (c : ClientCall). c.id) before.2 ∙ same ∙ sym (ap (λ (c : ClientCall). c.id) after.2)))

pub called_ids-later_by : (skew : ℕ) (h : List ClientCall)
    → called_ids (map (later_by skew) h) ≡ called_ids h
called_ids-later_by skew [] = refl
called_ids-later_by skew (c ∷ h) = ap (λ (ids : List Id). c.id ∷ ids) (called_ids-later_by skew h)

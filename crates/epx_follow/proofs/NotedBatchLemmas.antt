-- The first places of what is held, as the lines of a batch are noted, and without those of what is
-- executed.
use Rattle.std.proofs.Common.{◌≡◌, ◌∙◌, ℕ, ◌+◌, ◌<◌, List, [], ◌∷◌, ◌++◌, length, take, get_or}
use Rattle.std.proofs.Common.{Option, ap, ap₂, append_assoc, arith, length-take, subst}
use Rattle.std.proofs.Common.{sym}
use Rattle.epx_types.proofs.Common.{Instance, Placed, take_all, take_more}
use Rattle.epx_types.specs.declared.id.Id.{Id}
use Rattle.epx_types.specs.declared.place.Place.{Place}
use Rattle.epx_follow.specs.inner.FirstPlaces.{HasFirstPlaces, HasOtherPlaces, IsNoted}
use Rattle.epx_follow.specs.inner.HeldLines.{batch_lines}
use Rattle.epx_follow.proofs.BatchEndLemmas.{batch_lines-push}
use Rattle.epx_follow.proofs.FirstPlaceLemmas.{AreForgotten}
use Rattle.epx_follow.proofs.HeldLineLemmas.{HasFirstPlaces-push}

-- the first k lines of a batch, after some lines
abbrev pub with_first : List Placed → List Place → List Instance → ℕ → List Placed
with_first lines places es k = lines ++ batch_lines (take k places) (take k es)

with_next : (lines : List Placed) (places : List Place) (es : List Instance) (k : ℕ) (p : Place)
    (e : Instance) → length places ≡ length es → k < length es
    → with_first lines places es k
    ++ record { place = get_or places k p; instance = get_or es k e } ∷ []
    ≡ with_first lines places es (k + 1)
with_next lines places es k p e same l =
    let ps = take k places in
    let ds = take k es in
    let lens : length ps ≡ length ds =
    omega (arith, length-take k places, length-take k es, same, l) in
    append_assoc lines (batch_lines ps ds) _
    ∙ ap (λ ls. lines ++ ls) (sym (batch_lines-push ps ds (get_or places k p) (get_or es k e) lens)
    ∙ ap₂ batch_lines (sym (take_more places k p (omega (arith, same, l))))
    (sym (take_more es k e l)))

pub HasFirstPlaces-batch_step : (before after : Id → Option Place) (lines : List Placed)
    (places : List Place) (es : List Instance) (k : ℕ) (p : Place) (e : Instance)
    → length places ≡ length es → k < length es
    → HasFirstPlaces before (with_first lines places es k)
    → IsNoted before (get_or es k e).id (get_or places k p) after
    → HasFirstPlaces after (with_first lines places es (k + 1))
HasFirstPlaces-batch_step before after lines places es k p e same l has noted =
    subst (HasFirstPlaces after) (with_next lines places es k p e same l)
    (HasFirstPlaces-push before after
    (record { place = get_or places k p; instance = get_or es k e }) noted
    (with_first lines places es k) has)

pub HasFirstPlaces-batch : (noted : Id → Option Place) (lines : List Placed) (places : List Place)
    (es : List Instance) (k : ℕ) → length places ≡ k → length es ≡ k
    → HasFirstPlaces noted (with_first lines places es k)
    → HasFirstPlaces noted (lines ++ batch_lines places es)
HasFirstPlaces-batch noted lines places es k ps ds has =
    subst (HasFirstPlaces noted) (ap (λ ls. lines ++ ls) (ap₂ batch_lines
    (take_all k places (omega (arith, ps))) (take_all k es (omega (arith, ds))))) has

-- what is left of them
pub HasOtherPlaces-forgotten : (noted left : Id → Option Place) (lines : List Placed)
    (ids : List Id)
    → HasFirstPlaces noted lines → AreForgotten noted ids left → HasOtherPlaces left lines ids
HasOtherPlaces-forgotten noted left lines ids has forgotten =
    (forgotten.0, λ x h. forgotten.1 x h ∙ has x)

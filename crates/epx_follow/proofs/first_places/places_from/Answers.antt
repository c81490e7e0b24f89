use Rattle.std.proofs.Common.{◌≡◌, ◌∙◌, ◌+◌, ◌<◌, Bor, List, ap, arith, get_or, length, map, subst}
use Rattle.std.proofs.Common.{sym}
use Rattle.std.proofs.lemmas.List.{get_or-map}
use Rattle.epx_types.proofs.Common.{Instance, length-map}
use Rattle.epx_types.specs.declared.id.Id.{Id}
use Rattle.epx_follow.specs.inner.FirstPlaces.{place_in}
use Rattle.epx_follow.proofs.AfterLemmas.{HasFirstPlaces-lines_step}
use Rattle.epx_follow.specs.inner.FirstPlaces.{IsNoted}
use Rattle.epx_follow.proofs.first_places.places_from.Goals as goal

pub loop-k-preserved : goal.loop-k-preserved
loop-k-preserved c =
    let l = c.loop-k in
    let entries = c.args.entries.now in
    let now = λ (e : Bor Instance). e.now in
    let es : List Instance = map now entries in
    let d = c.index-entries-k.result in
    let before = place_in l.places in
    let after = place_in c.note_place.new.places in
    let within : l.k < length entries = omega arith in
    let same : (get_or es l.k d.now).id ≡ c.id.result =
    ap (λ (e : Instance). e.id) (get_or-map now entries l.k d d.now within
    ∙ sym (ap now c.index-entries-k.is)) ∙ sym c.id.ensures in
    HasFirstPlaces-lines_step before after c.args.log c.args.line es l.k d.now
    (omega (arith, within, length-map entries now)) l.invariant
    (subst (λ (x : Id). IsNoted before x (record { log = c.args.log; line = c.args.line + l.k })
    after) (sym same) (c.in_ok-note_place.ensures.here, c.in_ok-note_place.ensures.apart))

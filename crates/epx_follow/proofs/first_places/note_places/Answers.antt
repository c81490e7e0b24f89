use Rattle.std.proofs.Common.{◌≡◌, ◌<◌, ◌∙◌, List, [], ap, arith, get_or, length, subst, sym}
use Rattle.std.proofs.lemmas.List.{get_or-map}
use Rattle.epx_types.proofs.Common.{Instance, length-map}
use Rattle.epx_types.specs.declared.id.Id.{Id}
use Rattle.epx_types.specs.declared.place.Place.{Place}
use Rattle.epx_follow.specs.inner.FirstPlaces.{IsNoted, place_in}
use Rattle.epx_follow.proofs.NotedBatchLemmas.{HasFirstPlaces-batch, HasFirstPlaces-batch_step}
use Rattle.epx_follow.proofs.first_places.note_places.Goals as goal

abbrev no_id : Id
no_id = record { replica = 0; number = 0 }

abbrev no_place : Place
no_place = record { log = 0; line = 0 }

abbrev no_instance : Instance
no_instance = record { id = no_id; seq = 0; deps = []; ops = [] }

pub loop-k-preserved : goal.loop-k-preserved
loop-k-preserved c = λ lines es named has.
    let k = c.loop-k.k in
    let ids = c.args.ids.now in
    let more = c.args.more.now in
    let before = place_in c.loop-k.places in
    let after = place_in c.note_place.new.places in
    let as_many : length ids ≡ length es =
    ap length named ∙ length-map es (λ (e : Instance). e.id) in
    let within : k < length es = omega (arith, c.loop-k-test.true, as_many) in
    let same : get_or ids k no_id ≡ (get_or es k no_instance).id =
    ap (λ (xs : List Id). get_or xs k no_id) named
    ∙ get_or-map (λ (e : Instance). e.id) es k no_instance no_id within in
    HasFirstPlaces-batch_step before after lines more es k no_place no_instance
    (sym c.requires ∙ as_many) within (c.loop-k.invariant lines es named has)
    (subst (λ (x : Id). IsNoted before x (get_or more k no_place) after) same
    (c.in_ok-note_place.ensures.here, c.in_ok-note_place.ensures.apart))

pub returns : goal.returns
returns c = λ lines es named has.
    let k = c.loop-k.k in
    let as_many : length c.args.ids.now ≡ length es =
    ap length named ∙ length-map es (λ (e : Instance). e.id) in
    HasFirstPlaces-batch (place_in c.loop-k.places) lines c.args.more.now es k
    (omega (arith, c.requires, c.loop-k-test.false, c.loop-k.auto.k-end))
    (omega (arith, as_many, c.loop-k-test.false, c.loop-k.auto.k-end))
    (c.loop-k.invariant lines es named has)

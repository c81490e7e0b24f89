use Rattle.std.proofs.Common.{arith}
use Rattle.epx_follow.specs.inner.FirstPlaces.{place_in}
use Rattle.epx_follow.proofs.FirstPlaceLemmas.{AreForgotten-all, AreForgotten-none}
use Rattle.epx_follow.proofs.FirstPlaceLemmas.{AreForgotten-step}
use Rattle.epx_follow.proofs.first_places.forget_places.Goals as goal

pub loop-id-init : goal.loop-id-init
loop-id-init c = AreForgotten-none (place_in c.args.places.now)

pub loop-id-preserved : goal.loop-id-preserved
loop-id-preserved c =
    AreForgotten-step (place_in c.args.places.now) (place_in c.loop-id.places)
    (place_in c.forget_place.new.places) c.args.ids.now c.loop-id.id-index _ (omega arith)
    c.loop-id.invariant c.forget_place.ensures.gone c.forget_place.ensures.apart

pub returns-clause-gone : goal.returns-clause-gone
returns-clause-gone c = (AreForgotten-all (place_in c.args.places.now) (place_in c.loop-id.places)
    c.args.ids.now c.loop-id.id-index (omega arith) c.loop-id.invariant).0

pub returns-clause-apart : goal.returns-clause-apart
returns-clause-apart c = (AreForgotten-all (place_in c.args.places.now) (place_in c.loop-id.places)
    c.args.ids.now c.loop-id.id-index (omega arith) c.loop-id.invariant).1

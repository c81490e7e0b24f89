use Rattle.std.proofs.Common.{take}
use Rattle.epx_follow.specs.inner.FirstPlaces.{place_in}
use Rattle.epx_follow.proofs.FirstPlaceLemmas.{AreForgotten}
use Rattle.epx_follow.proofs.first_places.forget_places.Given as goal

abbrev pub invariant-loop-id : goal.invariant-loop-id
invariant-loop-id l =
    AreForgotten (place_in l.fn.places) (take l.id-index l.ids) (place_in l.places)

use Rattle.std.proofs.Common.{map, take}
use Rattle.epx_executor.specs.CallLines.{lines_from}
use Rattle.epx_follow.specs.inner.FirstPlaces.{HasFirstPlaces, place_in}
use Rattle.epx_follow.proofs.first_places.places_from.Given as goal

abbrev pub invariant-loop-k : goal.invariant-loop-k
invariant-loop-k l = HasFirstPlaces (place_in l.places)
    (lines_from l.log l.line (take l.k (map (λ e. e.now) l.entries)))

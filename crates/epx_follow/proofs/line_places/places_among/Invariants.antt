use Rattle.std.proofs.Common.{◌≡◌, map, take}
use Rattle.epx_follow.specs.CallPlaces.{held_places}
use Rattle.epx_follow.specs.inner.FirstPlaces.{place_in}
use Rattle.epx_follow.specs.inner.HeldLines.{pending_lines}
use Rattle.epx_follow.proofs.line_places.places_among.Given as goal

abbrev pub invariant-loop-entry : goal.invariant-loop-entry
invariant-loop-entry l = l.found.items ≡ held_places (pending_lines (place_in l.places)
    (map (λ e. e.now) (take l.entry-index l.entries)))

use Rattle.std.proofs.Common.{◌≡◌, List}
use Rattle.epx_types.proofs.Common.{Instance, Placed, ids_of}
use Rattle.epx_follow.specs.inner.FirstPlaces.{HasFirstPlaces, place_in}
use Rattle.epx_follow.proofs.NotedBatchLemmas.{with_first}
use Rattle.epx_follow.proofs.first_places.note_places.Given as goal

abbrev pub invariant-loop-k : goal.invariant-loop-k
invariant-loop-k l = (lines : List Placed) (es : List Instance) → l.ids ≡ ids_of es
    → HasFirstPlaces (place_in l.fn.places) lines
    → HasFirstPlaces (place_in l.places) (with_first lines l.more es l.k)

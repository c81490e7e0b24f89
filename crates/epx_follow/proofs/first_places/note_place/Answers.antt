use Rattle.std.proofs.Common.{Some}
use Rattle.epx_follow.proofs.FirstPlaceLemmas.{place_in-other}
use Rattle.epx_follow.proofs.first_places.note_place.Goals as goal

pub returns-in_ok-insert-clause-apart : goal.returns-in_ok-insert-clause-apart
returns-in_ok-insert-clause-apart c = λ x apart.
    place_in-other c.args.places.now c.insert.new.self c.args.id (Some c.args.place)
    c.in_ok-insert.ensures.updates x apart

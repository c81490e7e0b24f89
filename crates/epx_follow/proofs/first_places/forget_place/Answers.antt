use Rattle.std.proofs.Common.{None}
use Rattle.epx_follow.proofs.FirstPlaceLemmas.{place_in-other}
use Rattle.epx_follow.proofs.first_places.forget_place.Goals as goal

pub returns-clause-apart : goal.returns-clause-apart
returns-clause-apart c = λ x apart.
    place_in-other c.args.places.now c.remove.new.self c.args.id None c.remove.ensures.updates x
    apart

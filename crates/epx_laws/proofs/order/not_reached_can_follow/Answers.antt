use Rattle.epx_laws.proofs.NotReachedLemmas.{Before-exists}
use Rattle.epx_laws.proofs.order.not_reached_can_follow.Goals as goal

pub returns : goal.returns
returns c = Before-exists

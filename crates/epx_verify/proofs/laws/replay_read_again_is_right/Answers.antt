use Rattle.epx_verify.proofs.RoundTripLemmas.{ReplayReadAgainIsRight-holds}
use Rattle.epx_verify.proofs.laws.replay_read_again_is_right.Goals as goal

pub returns : goal.returns
returns c = ReplayReadAgainIsRight-holds

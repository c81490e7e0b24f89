use Rattle.epx_verify.proofs.DifferenceLemmas.{ReplayHasNoDifference-holds}
use Rattle.epx_verify.proofs.laws.replay_has_no_difference.Goals as goal

pub returns : goal.returns
returns c = ReplayHasNoDifference-holds

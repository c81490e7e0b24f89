use Rattle.epx_verify.proofs.DifferenceLemmas.{NoDifferenceIfRight-holds}
use Rattle.epx_verify.proofs.laws.no_difference_if_right.Goals as goal

pub returns : goal.returns
returns c = NoDifferenceIfRight-holds

use Rattle.epx_blockers.proofs.BlockerSumLemmas.{CountsAddUpToTheWaiting-holds}
use Rattle.epx_blockers.proofs.laws.counts_add_up_to_the_waiting.Goals as goal

pub returns : goal.returns
returns c = CountsAddUpToTheWaiting-holds

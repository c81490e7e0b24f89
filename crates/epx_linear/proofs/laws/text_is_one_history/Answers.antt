use Rattle.epx_linear.proofs.HistoryLemmas.{TextIsOneHistory-holds}
use Rattle.epx_linear.proofs.laws.text_is_one_history.Goals as goal

pub returns : goal.returns
returns c = TextIsOneHistory-holds

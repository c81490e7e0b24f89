use Rattle.epx_linear.proofs.HistoryLemmas.{HistoryOrBadHistory-holds}
use Rattle.epx_linear.proofs.laws.history_or_bad_history.Goals as goal

pub returns : goal.returns
returns c = HistoryOrBadHistory-holds

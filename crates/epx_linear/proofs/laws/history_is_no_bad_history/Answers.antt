use Rattle.epx_linear.proofs.HistoryLemmas.{HistoryIsNoBadHistory-holds}
use Rattle.epx_linear.proofs.laws.history_is_no_bad_history.Goals as goal

pub returns : goal.returns
returns c = HistoryIsNoBadHistory-holds

use Rattle.epx_linear.proofs.HistoryLemmas.{BadHistoryIsBadAtOneLine-holds}
use Rattle.epx_linear.proofs.laws.bad_history_is_bad_at_one_line.Goals as goal

pub returns : goal.returns
returns c = BadHistoryIsBadAtOneLine-holds

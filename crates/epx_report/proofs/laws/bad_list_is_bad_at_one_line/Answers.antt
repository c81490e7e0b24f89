use Rattle.epx_report.proofs.ListLemmas.{BadListIsBadAtOneLine-holds}
use Rattle.epx_report.proofs.laws.bad_list_is_bad_at_one_line.Goals as goal

pub returns : goal.returns
returns c = BadListIsBadAtOneLine-holds

use Rattle.epx_report.proofs.ListLemmas.{ListIsNoBadList-holds}
use Rattle.epx_report.proofs.laws.list_is_no_bad_list.Goals as goal

pub returns : goal.returns
returns c = ListIsNoBadList-holds

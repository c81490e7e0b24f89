use Rattle.epx_report.proofs.ListLemmas.{ListOrBadList-holds}
use Rattle.epx_report.proofs.laws.list_or_bad_list.Goals as goal

pub returns : goal.returns
returns c = ListOrBadList-holds

use Rattle.epx_report.proofs.ListLemmas.{ListNamesOneList-holds}
use Rattle.epx_report.proofs.laws.list_names_one_list.Goals as goal

pub returns : goal.returns
returns c = ListNamesOneList-holds

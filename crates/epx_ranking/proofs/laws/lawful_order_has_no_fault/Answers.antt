use Rattle.epx_ranking.proofs.UniqueFaultLemmas.{IsOrderFault-not_lawful}
use Rattle.epx_ranking.proofs.laws.lawful_order_has_no_fault.Goals as goal

pub returns : goal.returns
returns c = IsOrderFault-not_lawful

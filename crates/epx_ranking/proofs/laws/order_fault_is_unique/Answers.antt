use Rattle.epx_ranking.proofs.UniqueFaultLemmas.{IsOrderFault-is_unique}
use Rattle.epx_ranking.proofs.laws.order_fault_is_unique.Goals as goal

pub returns : goal.returns
returns c = IsOrderFault-is_unique

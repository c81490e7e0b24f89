use Rattle.epx_ranking.proofs.PrefixFaultLemmas.{IsPrefixFault-is_unique}
use Rattle.epx_ranking.proofs.laws.prefix_fault_is_unique.Goals as goal

pub returns : goal.returns
returns c = IsPrefixFault-is_unique

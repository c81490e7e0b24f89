use Rattle.epx_ranking.proofs.PrefixFaultLemmas.{IsLawfulPrefix-or_fault}
use Rattle.epx_ranking.proofs.laws.prefix_or_fault.Goals as goal

pub returns : goal.returns
returns c = λ m rising ids. IsLawfulPrefix-or_fault m ids rising

use Rattle.epx_ranking.proofs.PrefixLemmas.{IsPrefixFault-not_lawful}
use Rattle.epx_ranking.proofs.laws.lawful_prefix_has_no_fault.Goals as goal

pub returns : goal.returns
returns c = IsPrefixFault-not_lawful

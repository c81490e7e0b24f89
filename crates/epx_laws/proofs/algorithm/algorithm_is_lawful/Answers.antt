use Rattle.epx_laws.proofs.AlgorithmLemmas.{IsLawful-all_members}
use Rattle.epx_laws.proofs.algorithm.algorithm_is_lawful.Goals as goal

pub returns : goal.returns
returns c = IsLawful-all_members

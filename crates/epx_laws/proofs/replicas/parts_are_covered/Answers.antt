use Rattle.epx_laws.proofs.ReplicaLemmas.{IsCovered-in_less}
use Rattle.epx_laws.proofs.replicas.parts_are_covered.Goals as goal

pub returns : goal.returns
returns c = IsCovered-in_less

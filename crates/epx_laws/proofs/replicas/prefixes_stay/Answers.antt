use Rattle.epx_laws.proofs.ReplicaLemmas.{IsLawfulPrefix-in_more}
use Rattle.epx_laws.proofs.replicas.prefixes_stay.Goals as goal

pub returns : goal.returns
returns c = IsLawfulPrefix-in_more

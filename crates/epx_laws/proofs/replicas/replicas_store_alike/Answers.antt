use Rattle.epx_laws.proofs.ReplicaLemmas.{final-replicas}
use Rattle.epx_laws.proofs.replicas.replicas_store_alike.Goals as goal

pub returns : goal.returns
returns c = final-replicas

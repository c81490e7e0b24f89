use Rattle.epx_laws.proofs.ReplicaLemmas.{reply-replicas}
use Rattle.epx_laws.proofs.replicas.replicas_reply_alike.Goals as goal

pub returns : goal.returns
returns c = reply-replicas

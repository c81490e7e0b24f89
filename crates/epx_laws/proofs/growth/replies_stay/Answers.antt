use Rattle.epx_laws.proofs.PrefixLemmas.{IsLawfulPrefix-whole}
use Rattle.epx_laws.proofs.ReplicaLemmas.{reply-replicas}
use Rattle.epx_laws.proofs.growth.replies_stay.Goals as goal

pub returns : goal.returns
returns c = λ m more rising within covered ids other lawful lawful' d i j x p q.
    reply-replicas more rising covered more m other ids
    (record { within = λ e h. h; begins = IsLawfulPrefix-whole more other lawful' })
    (record { within = within; begins = IsLawfulPrefix-whole m ids lawful })
    d j i x q p

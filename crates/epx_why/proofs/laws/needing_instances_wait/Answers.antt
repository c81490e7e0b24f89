use Rattle.epx_why.proofs.NeedLawLemmas.{NeedingInstancesWait-holds}
use Rattle.epx_why.proofs.laws.needing_instances_wait.Goals as goal

pub returns : goal.returns
returns c = NeedingInstancesWait-holds

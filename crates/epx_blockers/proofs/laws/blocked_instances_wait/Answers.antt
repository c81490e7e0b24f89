use Rattle.epx_blockers.proofs.BlockingLemmas.{BlockedInstancesWait-holds}
use Rattle.epx_blockers.proofs.laws.blocked_instances_wait.Goals as goal

pub returns : goal.returns
returns c = BlockedInstancesWait-holds

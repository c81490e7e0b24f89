use Rattle.epx_types.proofs.Common.{IsLeader-exists}
use Rattle.epx_laws.proofs.reaching.leader_exists.Goals as goal

pub returns : goal.returns
returns c = IsLeader-exists

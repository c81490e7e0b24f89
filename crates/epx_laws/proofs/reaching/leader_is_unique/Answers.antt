use Rattle.epx_types.proofs.Common.{IsLeader-unique}
use Rattle.epx_laws.proofs.reaching.leader_is_unique.Goals as goal

pub returns : goal.returns
returns c = IsLeader-unique

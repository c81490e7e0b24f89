use Rattle.epx_types.proofs.Common.{IsCommittedBy-unique}
use Rattle.epx_laws.proofs.agreement.committed_map_is_unique.Goals as goal

pub returns : goal.returns
returns c = IsCommittedBy-unique

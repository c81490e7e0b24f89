use Rattle.epx_types.proofs.Common.{IsWaitingList-unique}
use Rattle.epx_laws.proofs.reaching.waiting_list_is_unique.Goals as goal

pub returns : goal.returns
returns c = IsWaitingList-unique

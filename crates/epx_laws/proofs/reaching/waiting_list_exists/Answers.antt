use Rattle.epx_types.proofs.Common.{IsWaitingList-exists}
use Rattle.epx_laws.proofs.reaching.waiting_list_exists.Goals as goal

pub returns : goal.returns
returns c = IsWaitingList-exists

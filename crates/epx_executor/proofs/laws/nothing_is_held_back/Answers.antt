use Rattle.epx_executor.proofs.CommitLemmas.{IsReady-only_done}
use Rattle.epx_executor.proofs.laws.nothing_is_held_back.Goals as goal

pub returns : goal.returns
returns c = IsReady-only_done c.remaining_is_ready_alike.ensures

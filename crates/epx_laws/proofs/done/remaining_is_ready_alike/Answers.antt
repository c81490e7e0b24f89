use Rattle.epx_laws.proofs.RemainingReadinessLemmas.{IsReady-remaining_iff}
use Rattle.epx_laws.proofs.done.remaining_is_ready_alike.Goals as goal

pub returns : goal.returns
returns c = IsReady-remaining_iff

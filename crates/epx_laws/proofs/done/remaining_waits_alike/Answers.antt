use Rattle.epx_laws.proofs.RemainingWaitLemmas.{WaitsFor-remaining}
use Rattle.epx_laws.proofs.done.remaining_waits_alike.Goals as goal

pub returns : goal.returns
returns c = WaitsFor-remaining

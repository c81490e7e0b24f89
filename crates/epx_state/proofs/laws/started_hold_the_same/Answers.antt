use Rattle.epx_state.proofs.StartLemmas.{StartedHoldTheSame-holds}
use Rattle.epx_state.proofs.laws.started_hold_the_same.Goals as goal

pub returns : goal.returns
returns c = StartedHoldTheSame-holds

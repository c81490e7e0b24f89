use Rattle.epx_state.proofs.SectionLemmas.{RestoredHoldTheSame-holds}
use Rattle.epx_state.proofs.laws.restored_hold_the_same.Goals as goal

pub returns : goal.returns
returns c = RestoredHoldTheSame-holds

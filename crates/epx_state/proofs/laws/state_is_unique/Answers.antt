use Rattle.epx_state.proofs.SectionLemmas.{StateIsUnique-holds}
use Rattle.epx_state.proofs.laws.state_is_unique.Goals as goal

pub returns : goal.returns
returns c = StateIsUnique-holds

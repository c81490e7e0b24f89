use Rattle.epx_state.proofs.ReadinessLemmas.{StateOfAnExecutorIsGood-holds}
use Rattle.epx_state.proofs.laws.state_of_an_executor_is_good.Goals as goal

pub returns : goal.returns
returns c = StateOfAnExecutorIsGood-holds

use Rattle.epx_laws.proofs.RemainingWaitLemmas.{WaitsFor-resumed}
use Rattle.epx_laws.proofs.resumed_runs.resumed_runs_wait_alike.Goals as goal

pub returns : goal.returns
returns c = λ m other done d can all. WaitsFor-resumed m other done can.sound.ready can.has all

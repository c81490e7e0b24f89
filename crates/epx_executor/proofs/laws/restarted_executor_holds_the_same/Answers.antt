use Rattle.epx_executor.proofs.RestartLemmas.{HoldTheSame-after, replies-none}
use Rattle.epx_executor.proofs.laws.restarted_executor_holds_the_same.Goals as goal

pub returns : goal.returns
returns c = λ v settled done same after replies commit. (
  replies-none v settled done same after replies commit,
  HoldTheSame-after v settled done same after replies commit,
)

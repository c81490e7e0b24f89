use Rattle.epx_executor.proofs.RestartLemmas.{HoldTheSame-next, replies-same}
use Rattle.epx_executor.proofs.laws.same_executors_commit_alike.Goals as goal

pub returns : goal.returns
returns c = λ v w same came next last replies others first second.
    let one = c.committed_map_is_unique.ensures in
    let order = c.execution_order_is_unique.ensures in (
      replies-same one order v w same came next last replies others first second,
      HoldTheSame-next one order v w same came next last replies others first second,
    )

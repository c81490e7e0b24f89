use Rattle.epx_txn.proofs.EvaluationLemmas.{IsDoneUpTo}
use Rattle.epx_txn.proofs.evaluation.operate_all.Given as goal

abbrev pub invariant-loop-index : goal.invariant-loop-index
invariant-loop-index l = IsDoneUpTo l.ops l.store l.index l.draft l.got.items

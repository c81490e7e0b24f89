use Rattle.epx_executor.proofs.RunLemmas.{AreJoined}
use Rattle.epx_executor.proofs.done_runs.join_runs.Given as goal

abbrev pub invariant-loop-run : goal.invariant-loop-run
invariant-loop-run l = AreJoined l.sorted l.run-index l.runs.items

use Rattle.std.proofs.Common.{length}
use Rattle.epx_explain.proofs.answer.read_answer.Given as goal

abbrev pub decreases-loop-rest : goal.decreases-loop-rest
decreases-loop-rest l = length l.rest

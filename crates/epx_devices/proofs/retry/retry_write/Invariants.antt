use Rattle.epx_types.proofs.Common.{Keeps}
use Rattle.epx_devices.proofs.retry.retry_write.Given as goal

abbrev pub invariant-loop : goal.invariant-loop
invariant-loop g l = Keeps (g.W.Write.contents l.initial.writer) (g.W.Write.contents l.writer)

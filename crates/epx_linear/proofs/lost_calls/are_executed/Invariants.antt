use Rattle.std.proofs.Common.{take}
use Rattle.epx_linear.specs.inner.MarkedCalls.{AreMarked}
use Rattle.epx_linear.proofs.lost_calls.are_executed.Given as goal

abbrev pub invariant-loop-place : goal.invariant-loop-place
invariant-loop-place l = AreMarked l.calls (take l.place-index l.places) l.executed.items

use Rattle.std.proofs.Common.{◌≡◌}
use Rattle.epx_executor.proofs.pending.Pending.entries.Given as goal

abbrev pub invariant-loop-entry : goal.invariant-loop-entry
invariant-loop-entry l = l.entries.items ≡ l.yielded

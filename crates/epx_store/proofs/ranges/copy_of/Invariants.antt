use Rattle.std.proofs.Common.{◌≡◌, ◌++◌, drop}
use Rattle.epx_store.proofs.ranges.copy_of.Given as goal

abbrev pub invariant-loop-pair : goal.invariant-loop-pair
invariant-loop-pair l = l.copy.items ++ drop l.pair-index l.pairs ≡ l.pairs

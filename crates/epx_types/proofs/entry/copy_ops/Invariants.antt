use Rattle.std.proofs.Common.{◌≡◌, take}
use Rattle.epx_types.proofs.entry.copy_ops.Given as goal

abbrev pub invariant-loop-op : goal.invariant-loop-op
invariant-loop-op l = l.copies.items ≡ take l.op-index l.ops

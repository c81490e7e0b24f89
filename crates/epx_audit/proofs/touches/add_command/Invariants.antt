use Rattle.std.proofs.Common.{◌≡◌, ◌++◌, take}
use Rattle.epx_audit.specs.inner.Touches.{hashed_touches}
use Rattle.epx_audit.proofs.touches.add_command.Given as goal

abbrev pub invariant-loop-op : goal.invariant-loop-op
invariant-loop-op l = l.touches.items ≡ l.initial.touches.items
    ++ hashed_touches l.start l.position (take l.op-index l.ops)

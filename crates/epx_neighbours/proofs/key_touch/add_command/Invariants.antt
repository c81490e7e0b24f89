use Rattle.std.proofs.Common.{◌≡◌, ◌++◌, map, take}
use Rattle.epx_neighbours.specs.inner.KeyTouches.{touches_in}
use Rattle.epx_neighbours.proofs.key_touch.add_command.Given as goal

abbrev pub invariant-loop-op : goal.invariant-loop-op
invariant-loop-op l = l.touches.items ≡ l.initial.touches.items
    ++ touches_in (map (λ k. k.now) l.keys) l.position (take l.op-index l.ops)

use Rattle.std.proofs.Common.{map}
use Rattle.epx_neighbours.proofs.TouchLemmas.{AreTouchesUpTo}
use Rattle.epx_neighbours.proofs.key_touch.find_touches.Given as goal

abbrev pub invariant-loop-position : goal.invariant-loop-position
invariant-loop-position l = AreTouchesUpTo (map (λ k. k.now) l.keys)
    (map (λ c. c.ops.now) l.commands) l.position l.touches.items

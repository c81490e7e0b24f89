use Rattle.std.proofs.Common.{◌≡◌, map, take}
use Rattle.epx_neighbours.proofs.uncovered.positions_of.Given as goal

abbrev pub invariant-loop-neighbours : goal.invariant-loop-neighbours
invariant-loop-neighbours l = l.pairs.items
    ≡ map (λ x. (x.after, x.before)) (take l.neighbours-index l.found)

use Rattle.epx_neighbours.proofs.MadeLemmas.{AreMadeUpTo}
use Rattle.epx_neighbours.proofs.neighbours.add_neighbours.Given as goal

abbrev pub invariant-loop-earlier : goal.invariant-loop-earlier
invariant-loop-earlier l = AreMadeUpTo l.touches l.last_writer l.index l.initial.found.items
    l.earlier l.found.items

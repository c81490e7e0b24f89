use Rattle.epx_neighbours.proofs.WalkLemmas.{AreFoundUpTo, IsLastWriter}
use Rattle.epx_neighbours.proofs.neighbours.find_neighbours.Given as goal

abbrev pub invariant-loop-index : goal.invariant-loop-index
invariant-loop-index l = record {
  last : IsLastWriter l.touches l.last_writer l.index;
  exact : AreFoundUpTo l.touches l.index l.found.items;
}

use Rattle.epx_ranking.specs.inner.Ends.{AreEnds}
use Rattle.epx_components.specs.between.Partitions.{parts}
use Rattle.epx_ranking.proofs.check.ends.find_ends.Given as goal

abbrev pub invariant-loop-position : goal.invariant-loop-position
invariant-loop-position l = AreEnds (parts l.partition) l.nodes l.position l.ends.items

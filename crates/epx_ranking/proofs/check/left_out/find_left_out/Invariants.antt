use Rattle.epx_ranking.specs.inner.SequenceKeys.{AreLeftOut}
use Rattle.epx_components.specs.between.Partitions.{parts}
use Rattle.epx_ranking.proofs.check.left_out.find_left_out.Given as goal

abbrev pub invariant-loop-node : goal.invariant-loop-node
invariant-loop-node l = AreLeftOut l.merged (parts l.partition) l.marks l.node l.left_out.items

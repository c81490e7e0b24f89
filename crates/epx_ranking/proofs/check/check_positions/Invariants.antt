use Rattle.epx_components.specs.between.Partitions.{parts}
use Rattle.epx_ranking.specs.inner.SequenceKeys.{AreNodesInOrder}
use Rattle.epx_ranking.proofs.SequenceKeyLemmas.{AreLatest}
use Rattle.epx_ranking.proofs.check.check_positions.Given as goal

abbrev pub invariant-loop-place : goal.invariant-loop-place
invariant-loop-place l = record {
  latest : AreLatest l.merged (parts l.partition) l.nodes l.place l.latest.items;
  none : AreNodesInOrder l.merged (parts l.partition) l.left_out l.below l.nodes l.place;
}

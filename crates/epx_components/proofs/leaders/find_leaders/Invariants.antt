use Rattle.std.proofs.Common.{◌≡◌, length}
use Rattle.epx_components.specs.between.Partitions.{parts}
use Rattle.epx_components.proofs.LeaderLemmas.{AreLeadersFrom}
use Rattle.epx_components.proofs.leaders.find_leaders.Given as goal

abbrev pub invariant-loop-node : goal.invariant-loop-node
invariant-loop-node l = record {
  len : length l.leaders.items ≡ l.partition.count;
  leaders : AreLeadersFrom (parts l.partition) l.leaders.items l.node;
}

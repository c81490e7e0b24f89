use Rattle.std.proofs.Common.{◌≡◌, ◌≤◌, length}
use Rattle.epx_components.specs.between.Partitions.{parts}
use Rattle.epx_blockers.proofs.ReachedNodeLemmas.{AreFirstReached}
use Rattle.epx_blockers.proofs.reached.find_reached.Given as goal

abbrev pub invariant-loop-node : goal.invariant-loop-node
invariant-loop-node l = record {
  len : length l.reached.items ≡ l.partition.count;
  from : l.graph.committed ≤ l.node;
  first : AreFirstReached l.graph (parts l.partition) l.node l.reached.items;
}

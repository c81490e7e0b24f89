use Rattle.std.proofs.Common.{◌≡◌, length}
use Rattle.epx_graph.proofs.Common.{edges_of}
use Rattle.epx_components.specs.between.Partitions.{parts}
use Rattle.epx_audit.proofs.ReachedBitLemmas.{AreReachedBits}
use Rattle.epx_audit.proofs.related.find_reached.Given as goal

abbrev pub invariant-loop-position : goal.invariant-loop-position
invariant-loop-position l = record {
  len : length l.words.items ≡ l.partition.count;
  marks : AreReachedBits (edges_of l.graph) (parts l.partition) l.sources l.words.items l.position;
}

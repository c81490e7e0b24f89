use Rattle.std.proofs.Common.{◌≡◌, length}
use Rattle.epx_graph.proofs.Common.{edges_of}
use Rattle.epx_audit.proofs.PairMarkLemmas.{AreExactBelow}
use Rattle.epx_audit.proofs.pair_marks.searched_marks.Given as goal

abbrev pub invariant-loop-index : goal.invariant-loop-index
invariant-loop-index l = record {
  seen : length l.path_search.seen.items ≡ length l.graph.ids;
  below : AreExactBelow (edges_of l.graph) l.reach.nodes.items l.pairs l.left.items l.marks.items
      l.index;
}

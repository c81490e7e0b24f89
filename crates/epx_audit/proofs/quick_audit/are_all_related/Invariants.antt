use Rattle.std.proofs.Common.{◌≡◌, length}
use Rattle.epx_graph.proofs.Common.{edges_of}
use Rattle.epx_audit.proofs.RelatedTouchLemmas.{IsRelatedUpTo}
use Rattle.epx_audit.proofs.quick_audit.are_all_related.Given as goal

abbrev pub invariant-loop-index : goal.invariant-loop-index
invariant-loop-index l = record {
  seen : length l.path_search.seen.items ≡ length l.graph.ids;
  related_up_to : IsRelatedUpTo (edges_of l.graph) l.reach.nodes.items l.touches l.last_writer
      l.index;
}

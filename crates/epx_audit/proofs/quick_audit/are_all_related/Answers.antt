use Rattle.std.proofs.Common.{◌∙◌}
use Rattle.epx_graph.proofs.Common.{edges_of}
use Rattle.epx_audit.proofs.RelatedTouchLemmas.{IsRelatedUpTo-next}
use Rattle.epx_audit.proofs.quick_audit.are_all_related.Goals as goal

pub loop-index-preserved : goal.loop-index-preserved
loop-index-preserved c = record {
  seen = c.in_ok-is_related_back.ensures.seen ∙ c.loop-index.invariant.seen;
  related_up_to = IsRelatedUpTo-next (edges_of c.args.graph.now) c.args.reach.now.nodes.items
      c.args.touches.now c.loop-index.last_writer c.loop-index.index
      c.next_writer-last_writer.result
      (c.in_ok-is_related_back.ensures.rises c.if-not-branch.false)
      (c.in_ok-is_related_back.ensures.related_back c.if-not-branch.false)
      c.next_writer-last_writer.ensures.next c.loop-index.invariant.related_up_to;
}

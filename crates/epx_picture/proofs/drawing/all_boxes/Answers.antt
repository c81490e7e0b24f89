use Rattle.std.proofs.Common.{◌+◌, sym, subst}
use Rattle.epx_picture.proofs.BoxListLemmas.{AreBoxesOf, AreBoxesOf-push}
use Rattle.epx_picture.proofs.drawing.all_boxes.Goals as goal

pub box_of_node-requires-clause-node_rank : goal.box_of_node-requires-clause-node_rank
box_of_node-requires-clause-node_rank c =
    c.in_ok-node_ranks.ensures.each c.loop-position.position c.get-node_rank.result
    c.get-node_rank.ensures

pub loop-position-preserved : goal.loop-position-preserved
loop-position-preserved c =
    let m = c.args.merged.now in
    let n = c.loop-position.position in
    subst (AreBoxesOf m (n + 1)) (sym c.in_ok-push.ensures.items)
    (AreBoxesOf-push m n c.loop-position.node_boxes.items c.box_of_node.result
    c.loop-position.invariant c.box_of_node.ensures.id c.box_of_node.ensures.node_box)

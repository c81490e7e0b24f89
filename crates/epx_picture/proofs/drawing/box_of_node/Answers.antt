use Rattle.epx_picture.proofs.NodeBoxLemmas.{slice_get-own_node, IsBoxOf-from_node}
use Rattle.epx_picture.proofs.drawing.box_of_node.Goals as goal

pub returns-clause-node_box : goal.returns-clause-node_box
returns-clause-node_box c =
    let m = c.args.merged.now in
    let g = c.args.graph.now in
    let is = c.requires.graph in
    let k = c.args.position in
    let e = c.entry_at-entry.result.now in
    let at = c.entry_at-entry.ensures in
    let node = slice_get-own_node m g is k e at in
    rw (c.id.ensures, c.seq.ensures)
    (IsBoxOf-from_node m g is k e at c.args.node_rank c.cluster_of.result c.requires.node_rank
    (c.cluster_of.ensures m e.id is node))

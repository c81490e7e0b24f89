use Rattle.std.proofs.Common.{◌≡◌, ◌∙◌, ◌<◌, length, ℕ, ap, arith, sym}
use Rattle.epx_types.proofs.Common.{with_items_is, MatchResult-weaker}
use Rattle.epx_graph.proofs.Common.{edges_of}
use Rattle.epx_ranking.specs.inner.Ends.{AreEnds, AreRaised, IsEndBelow}
use Rattle.epx_ranking.specs.inner.SequenceKeys.{AreLeftOut}
use Rattle.epx_components.specs.between.Partitions.{parts, number_for}
use Rattle.epx_ranking.proofs.ListedNodeLemmas.{nodes-committed, nodes-within}
use Rattle.epx_ranking.proofs.NodeFaultLemmas.{IsLawfulPrefix-from_nodes, IsPrefixFault-from_node}
use Rattle.epx_ranking.proofs.check.check_listed.Goals as goal

pub find_ends-requires-clause-nodes : goal.find_ends-requires-clause-nodes
find_ends-requires-clause-nodes c =
    let node_list = c.args.node_list.now in
    let ids = c.requires.ready.0 in
    let ready = c.requires.ready.1 in
    rw c.deref-2.ensures.value
    (nodes-within c.args.merged.now c.args.graph.now c.requires.graph ids node_list.nodes.items
    node_list.marks.items ready.listed _ c.requires.partition.each_node)

pub check_positions-requires-clause-nodes : goal.check_positions-requires-clause-nodes
check_positions-requires-clause-nodes c =
    let node_list = c.args.node_list.now in
    let ids = c.requires.ready.0 in
    let ready = c.requires.ready.1 in
    rw c.deref-7.ensures.value
    (nodes-within c.args.merged.now c.args.graph.now c.requires.graph ids node_list.nodes.items
    node_list.marks.items ready.listed _ c.requires.partition.each_node)

pub check_positions-requires-clause-committed : goal.check_positions-requires-clause-committed
check_positions-requires-clause-committed c =
    let node_list = c.args.node_list.now in
    let ids = c.requires.ready.0 in
    let ready = c.requires.ready.1 in
    rw c.deref-7.ensures.value
    (nodes-committed c.args.merged.now c.args.graph.now c.requires.graph ids
    node_list.nodes.items node_list.marks.items ready.listed ready.once)

pub returns : goal.returns
returns c = λ ids ready.
    let m = c.args.merged.now in
    let g = c.args.graph.now in
    let is = c.requires.graph in
    let part = c.requires.partition in
    let p = parts c.args.partition.now in
    let nodes = c.args.node_list.now.nodes.items in
    let marks = c.args.node_list.now.marks.items in
    let left_out = c.in_ok-left_out.left_out.items in
    let ends = c.in_ok-ends.ends.items in
    let raised = c.raise_ends.new.ends in
    let below = c.in_ok-below.below.items in
    let are_left : AreLeftOut m p marks (length m) left_out =
    rw c.deref.ensures.value at c.in_ok-left_out.ensures in
    let are_ends : AreEnds p nodes (length nodes) ends =
    rw c.deref-2.ensures.value at c.in_ok-ends.ensures in
    let given : c.deref-3.result.now ≡ left_out = c.deref-3.ensures.value in
    let start : c.deref_mut.result.now ≡ ends = c.deref_mut.ensures.value in
    let written = with_items_is c.in_ok-ends.ends raised
    (c.raise_ends.ensures.whole ∙ (ap length start ∙ sym c.in_ok-ends.ends.ok.0)) in
    let back : c.deref-4.result.now ≡ raised = c.deref-4.ensures.value ∙ written in
    let len : c.len.result ≡ length nodes = omega (arith, c.len.ensures) in
    let by_call : AreRaised c.deref-3.result.now c.len.result c.deref_mut.result.now raised =
    c.raise_ends.ensures in
    let are_raised : AreRaised left_out (length nodes) ends raised =
    rw (given, len, start) at by_call in
    let are_below : (k : ℕ) → k < length g.ids
    → IsEndBelow (edges_of g) p raised k (number_for p below k) =
    rw back at c.in_ok-below.ensures.each in
    MatchResult-weaker c.check_positions.result
    (rw (c.deref-5.ensures.value, c.deref-6.ensures.value, c.deref-7.ensures.value)
    at c.check_positions.ensures)
    (λ _ none. IsLawfulPrefix-from_nodes m g is p part ids nodes marks ready left_out are_left ends
    raised below are_ends are_raised are_below none)
    (IsPrefixFault-from_node m g is p part ids nodes marks ready left_out are_left ends raised below
    are_ends are_raised are_below)

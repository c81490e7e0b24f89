use Rattle.std.proofs.Common.{◌+◌, List, Bool, sym, subst, ap, arith}
use Rattle.epx_components.proofs.InstanceLeaderLemmas.{IsNodeLeader-within}
use Rattle.epx_picture.specs.inner.Clusters.{AreLeaderMarks}
use Rattle.epx_picture.proofs.LeaderMarkLemmas.{AreLeaderMarks-none, AreLeaderMarks-past}
use Rattle.epx_picture.proofs.LeaderMarkLemmas.{AreLeaderMarks-more}
use Rattle.epx_picture.proofs.cluster.mark_leaders.Goals as goal
use Rattle.epx_picture.proofs.cluster.mark_leaders.Goals.{then-leader-node, else-leader-node}

pub loop-node-init : goal.loop-node-init
loop-node-init c = subst (AreLeaderMarks c.args.node_ranks.now 0)
    (sym (c.in_ok-marks.ensures.items_if_clones_equal (λ y same. same)))
    (AreLeaderMarks-none c.args.node_ranks.now c.len.result
    (omega (arith, c.requires.nodes, c.len.ensures.len)))

pub index_mut-requires : goal.index_mut-requires
index_mut-requires c =
    let rank = c.requires.each c.loop-node.node c.get-leader.result c.get-leader.ensures in
    let within = IsNodeLeader-within c.args.graph.now c.len.ensures.fits c.loop-node.node
    c.get-leader.result.leader
    (omega (arith, c.loop-node-test.true, c.len-node-end.ensures.len)) rank.leader in
    omega (arith, within, c.loop-node.invariant.nodes, c.requires.nodes)

pub loop-node-preserved : goal.loop-node-preserved
loop-node-preserved c =
    let node_ranks = c.args.node_ranks.now in
    let n = c.loop-node.node in
    let marks = c.loop-node.marks.items in
    let s = c.get-leader.result in
    let old = c.loop-node.invariant in
    let rank = c.requires.each n s c.get-leader.ensures in
    let within = IsNodeLeader-within c.args.graph.now c.len.ensures.fits n s.leader
    (omega (arith, c.loop-node-test.true, c.len-node-end.ensures.len)) rank.leader in
    let Marked : List Bool → Type 0 = λ new. AreLeaderMarks node_ranks (n + 1) new in
    elim c.if-leader-node.branch [
      | then-leader-node w ↦ subst Marked (sym (ap (λ v. v.items) w.marks-is))
          (AreLeaderMarks-more node_ranks n marks old s c.get-leader.ensures w.if-leader-node.true
          (omega (arith, within, old.nodes, c.requires.nodes)))
      | else-leader-node w ↦ subst Marked (sym (ap (λ v. v.items) w.marks-is))
          (AreLeaderMarks-past node_ranks n marks old s c.get-leader.ensures w.if-leader-node.false)
    ]

use Rattle.std.proofs.Common.{Some, sym, ap, ◌∙◌, subst, ◌≡◌, slice_get}
use Rattle.epx_types.proofs.Common.{false≢true}
use Rattle.epx_components.proofs.InstanceLeaderLemmas.{IsNodeLeader-within}
use Rattle.epx_picture.specs.NodeBoxes.{IsCluster}
use Rattle.epx_picture.proofs.ClusterLemmas.{IsCluster-alone, IsCluster-leader, IsCluster-member}
use Rattle.epx_picture.proofs.cluster.cluster_of.Goals as goal
use Rattle.epx_picture.proofs.cluster.cluster_of.Goals.{else-node_rank-node-via-then-node_rank-node+else-not-leader_marks-node}
use Rattle.epx_picture.proofs.cluster.cluster_of.Goals.{else-node_rank-node-via-else-node_rank-node}

pub returns-then-not-leader_marks-node : goal.returns-then-not-leader_marks-node
returns-then-not-leader_marks-node c m x is at =
    let all = c.requires.leader_marks in
    IsCluster-alone m c.args.graph.now is c.args.node x c.args.node_rank at c.requires.node_rank
    c.if-node_rank-node.true all.0 all.1 c.args.leader_marks.now all.2
    (λ h. false≢true (sym c.if-not-leader_marks-node.true ∙ h))

pub id-requires : goal.id-requires
id-requires c =
    IsNodeLeader-within c.args.graph.now c.requires.graph c.args.node c.args.node_rank.leader
    c.requires.node c.requires.node_rank.leader

pub returns : goal.returns
returns c m x is at =
    let g = c.args.graph.now in
    let all = c.requires.leader_marks in
    elim c.else-node_rank-node.branch [
      | else-node_rank-node-via-then-node_rank-node+else-not-leader_marks-node w ↦
          let same : Some x ≡ Some c.id.result =
          sym at ∙ ap (slice_get g.ids) (sym w.if-node_rank-node.true) ∙ c.id.ensures in
          let one : x ≡ c.id.result = cc same in
          subst (λ y. IsCluster m x (Some y)) one
          (IsCluster-leader m g is c.args.node x c.args.node_rank at c.requires.node_rank
          w.if-node_rank-node.true all.0 all.1 c.args.leader_marks.now all.2
          w.if-not-leader_marks-node.false)
      | else-node_rank-node-via-else-node_rank-node w ↦ IsCluster-member m g is c.args.node x
          c.args.node_rank at c.requires.node_rank c.id.result c.id.ensures
          w.if-node_rank-node.false
    ]

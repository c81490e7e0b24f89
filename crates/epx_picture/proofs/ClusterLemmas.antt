-- The cluster of an instance, from the leader of its node and the marks of the nodes that are the
-- leader of another one.
use Rattle.std.proofs.Common.{◌≡◌, ℕ, inl, inr, List, Bool, false, length, get_or, slice_get, Some}
use Rattle.std.proofs.Common.{None, sym, ap, ◌∙◌, subst, arith, IsTrue}
use Rattle.epx_types.proofs.Common.{cases_eq, slice_get_within, slice_get-get_or, Instance}
use Rattle.epx_types.proofs.Common.{InOneComponent}
use Rattle.epx_types.specs.declared.id.Id.{Id}
use Rattle.epx_graph.proofs.Common.{DependencyGraph, edges_of, IsGraphOf, NodeReaches}
use Rattle.epx_graph.proofs.Common.{slice_get-id_of_node}
use Rattle.epx_graph.proofs.Common.{ids-is_unique, NodeReaches-iff, NodeReaches-exists}
use Rattle.epx_components.specs.declared.node_ranks.NodeRank.{NodeRank}
use Rattle.epx_components.specs.NodeComponents.{InOneNodeComponent, IsNodeLeader}
use Rattle.epx_components.specs.between.NodeRanks.{IsNodeRank}
use Rattle.epx_components.proofs.InstanceLeaderLemmas.{IsLeader-from_node}
use Rattle.epx_components.proofs.NodePathLemmas.{NodeReaches-trans}
use Rattle.epx_picture.specs.inner.Clusters.{AreNodeRanks, AreLeaderMarks}
use Rattle.epx_picture.specs.NodeBoxes.{IsCluster}

-- nodes of one component have the same leader
one_leader : (edges : ℕ → List ℕ) (k j l i : ℕ) → InOneNodeComponent edges k j
    → IsNodeLeader edges k l → IsNodeLeader edges j i → l ≡ i
one_leader edges k j l i one p q =
    let low = p.least i (
      NodeReaches-trans edges k j i one.0 q.member.0,
      NodeReaches-trans edges i j k q.member.1 one.1,
    ) in
    let high = q.least l (
      NodeReaches-trans edges j k l one.1 p.member.0,
      NodeReaches-trans edges l k j p.member.1 one.0,
    ) in
    omega arith

module _ (m : List Instance) (g : DependencyGraph) (is : IsGraphOf m g) (k : ℕ) (x : Id)
    (s : NodeRank) (at : slice_get g.ids k ≡ Some x) (rank : IsNodeRank g k s) where
  in_component : (j : ℕ) (y : Id) → slice_get g.ids j ≡ Some y
      → InOneNodeComponent (edges_of g) k j → InOneComponent m x y
  in_component j y to one = (
    (NodeReaches-iff m g is k j x y at to).0 one.0,
    (NodeReaches-iff m g is j k y x to at).0
        one.1,
  )

  -- its node has another leader
  pub IsCluster-member : (leader : Id) → slice_get g.ids s.leader ≡ Some leader → ¬ (s.leader ≡ k)
      → IsCluster m x (Some leader)
  IsCluster-member leader to other = (
    IsLeader-from_node m g is k s.leader x leader at to rank.leader,
    (
      leader,
      in_component s.leader leader to rank.leader.member,
      λ same. other (ids-is_unique g is.graph s.leader k x (to ∙ ap Some same) at),
    ),
  )

  module _ (own : s.leader ≡ k) (node_ranks : List NodeRank) (all : AreNodeRanks g node_ranks)
      (marks : List Bool) (marked : AreLeaderMarks node_ranks (length g.ids) marks) where
    -- its node is the leader of another node
    pub IsCluster-leader : IsTrue (get_or marks k false) → IsCluster m x (Some x)
    IsCluster-leader h =
        let led = (marked.exact k).0 h in
        let y = slice_get-id_of_node g is.graph led.node led.below in
        let t = all.each led.node led.rank led.there in
        let member = subst (λ l. InOneNodeComponent (edges_of g) led.node l) led.leads
        t.leader.member in (
          IsLeader-from_node m g is k k x x at at
              (subst (IsNodeLeader (edges_of g) k) own rank.leader),
          (
            y.0,
            in_component led.node y.0 y.1 (member.1, member.0),
            λ same. led.other (ids-is_unique g is.graph led.node k x (y.1 ∙ ap Some same) at),
          ),
        )

    -- its node is the leader of no other node
    pub IsCluster-alone : ¬ IsTrue (get_or marks k false) → IsCluster m x None
    IsCluster-alone none y one =
        let j = NodeReaches-exists m g is k x y at one.0 in
        let back : NodeReaches (edges_of g) j.0 k =
        (NodeReaches-iff m g is j.0 k y x j.1 at).1 one.1 in
        let within = slice_get_within g.ids j.0 y j.1 in
        let there = slice_get-get_or node_ranks j.0 s (omega (arith, all.nodes)) in
        let t = all.each j.0 (get_or node_ranks j.0 s) there in
        let leads = one_leader (edges_of g) k j.0 s.leader _ (j.2, back) rank.leader t.leader in
        elim (cases_eq j.0 k) [
          | inl same ↦ (let found : Some y ≡ Some x = sym j.1 ∙ ap (slice_get g.ids) same ∙ at in
              cc found)
          | inr other ↦ absurd
              (none ((marked.exact k).1 (record {
                node = j.0;
                rank = get_or node_ranks j.0 s;
                below = within;
                there = there;
                leads = sym leads ∙ own;
                other = other;
              })))
        ]

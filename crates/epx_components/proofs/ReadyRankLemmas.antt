-- The rank of a ready instance, from the rank of its node.
use Rattle.std.proofs.Common.{◌≡◌, ℕ, ◌<◌, List, slice_get, Some, Contains, refl, sym, ap, ◌∙◌}
use Rattle.std.proofs.Common.{subst, IsTrue, arith}
use Rattle.epx_types.proofs.Common.{IsRanked, IsRising, Instance, instance_of-iff_contains}
use Rattle.epx_types.proofs.Common.{without_deps}
use Rattle.epx_types.proofs.Common.{remaining, Contains-remaining_iff, Contains-left}
use Rattle.epx_types.specs.declared.id.Id.{Id}
use Rattle.epx_graph.proofs.Common.{DependencyGraph, IsGraphOf, slice_get-id_of_node}
use Rattle.epx_graph.proofs.Common.{IsCommitted-iff_node}
use Rattle.epx_graph.proofs.Common.{slice_get-instance}
use Rattle.epx_components.proofs.InstanceDepthLemmas.{IsDepth-from_node}
use Rattle.epx_components.proofs.InstanceLeaderLemmas.{IsLeader-from_node}
use Rattle.epx_components.proofs.ReadyNodeLemmas.{IsReady-from_node}
use Rattle.epx_components.specs.between.NodeRanks.{IsNodeRank}
use Rattle.epx_components.specs.declared.node_ranks.NodeRank.{NodeRank}

module _ (m : List Instance) (g : DependencyGraph) (is : IsGraphOf m g) where
  -- the node with the number of a position of the map is that of the instance there
  pub slice_get-node : (k : ℕ) (e : Instance) → slice_get m k ≡ Some e → k < g.committed
      → slice_get g.ids k ≡ Some e.id
  slice_get-node k e at l =
      let x = slice_get-id_of_node g is.graph k (omega (arith, is.graph.committed_nodes)) in
      let d = slice_get-instance m g is k x.0 x.1 l in
      let same : Some d.0 ≡ Some e = sym d.1 ∙ at in
      let one : d.0 ≡ e = cc same in
      x.1 ∙ ap Some (sym d.2 ∙ ap (λ (i : Instance). i.id) one)

  -- instances with equal Ids are equal
  instance_is_unique : (d e : Instance) → Contains m d → Contains m e → d.id ≡ e.id → d ≡ e
  instance_is_unique d e in_d in_e same =
      let rising = subst IsRising is.committed is.graph.committed_rise in
      let found = (instance_of-iff_contains m rising e.id d).1 (in_d, same) in
      let also = (instance_of-iff_contains m rising e.id e).1 (in_e, refl) in
      let one : Some d ≡ Some e = sym found ∙ also in
      cc one

  pub IsRanked-from_node : (k : ℕ) (e : Instance) (s : NodeRank) (leader : Id)
      → slice_get g.ids k ≡ Some e.id → Contains m e → k < g.committed → IsNodeRank g k s
      → ¬ IsTrue s.reaches_missing → slice_get g.ids s.leader ≡ Some leader
      → IsRanked m (record { id = e.id; seq = e.seq; leader = leader; depth = s.depth })
  IsRanked-from_node k e s leader node in_m l node_rank complete to =
      let ready = IsReady-from_node m g is k e.id node l
      (λ missing. complete (node_rank.missing.1 missing)) in
      record {
        ready = ready;
        seq = λ d in_d same. ap (λ (i : Instance). i.seq) (instance_is_unique d e in_d in_m same);
        leader = IsLeader-from_node m g is k s.leader e.id leader node to node_rank.leader;
        depth = IsDepth-from_node m g is k e.id s.depth node node_rank.depth;
      }

-- the rank of a node of what is left of a map: its sequence number is that of its entry in the
-- whole map
pub IsRanked-remaining : (done : List Id) (m : List Instance) (g : DependencyGraph)
    → IsGraphOf (remaining done m) g → (k : ℕ) (x : Id) (e : Instance) (s : NodeRank) (leader : Id)
    → slice_get g.ids k ≡ Some x → Contains m e → e.id ≡ x → k < g.committed → IsNodeRank g k s
    → ¬ IsTrue s.reaches_missing → slice_get g.ids s.leader ≡ Some leader
    → IsRanked (remaining done m)
    (record { id = x; seq = e.seq; leader = leader; depth = s.depth })
IsRanked-remaining done m g is k x e s leader at in_m same l node_rank complete to =
    let committed = (IsCommitted-iff_node (remaining done m) g is k x at).0 l in
    let left : ¬ Contains done e.id = subst (λ (y : Id). ¬ Contains done y) (sym same)
    ((Contains-remaining_iff done m x).0 committed).1 in
    let rank = IsRanked-from_node (remaining done m) g is k (without_deps done e) s leader
    (at ∙ ap Some (sym same)) (Contains-left done m e in_m left) l node_rank complete to in
    subst (λ (y : Id). IsRanked (remaining done m)
    (record { id = y; seq = e.seq; leader = leader; depth = s.depth })) same rank

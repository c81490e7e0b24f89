-- What the box of an instance shows, from the rank of its node.
use Rattle.std.proofs.Common.{◌≡◌, ℕ, ◌<◌, List, Bool, true, false, Option, slice_get, Some, sym}
use Rattle.std.proofs.Common.{ap, ◌∙◌, subst, arith, refl, IsTrue}
use Rattle.epx_types.proofs.Common.{false≢true, slice_get_within, IsRising, Instance, IsRising-same}
use Rattle.epx_types.proofs.Common.{Contains-slice_get}
use Rattle.epx_types.specs.declared.id.Id.{Id}
use Rattle.epx_graph.proofs.Common.{DependencyGraph, IsGraphOf, committed-count}
use Rattle.epx_components.specs.declared.node_ranks.NodeRank.{NodeRank}
use Rattle.epx_components.specs.between.NodeRanks.{IsNodeRank}
use Rattle.epx_components.proofs.InstanceDepthLemmas.{IsDepth-from_node}
use Rattle.epx_components.proofs.ReadyRankLemmas.{slice_get-node}
use Rattle.epx_components.proofs.ReadyNodeLemmas.{IsReady-from_node, ReachesMissing-not_if_ready}
use Rattle.epx_picture.specs.NodeBoxes.{IsCluster, IsBoxOf}

from_not_false : (b : Bool) → ¬ (b ≡ false) → IsTrue b
from_not_false true h = refl
from_not_false false h = absurd (h refl)

module _ (m : List Instance) (g : DependencyGraph) (is : IsGraphOf m g) (k : ℕ) (e : Instance)
    (at : slice_get m k ≡ Some e) where
  below : k < g.committed
  below = omega (arith, slice_get_within m k e at, committed-count m g is)

  -- the node at a position of the map is that of the instance there
  pub slice_get-own_node : slice_get g.ids k ≡ Some e.id
  slice_get-own_node = slice_get-node m g is k e at below

  pub IsBoxOf-from_node : (s : NodeRank) (cluster : Option Id) → IsNodeRank g k s
      → IsCluster m e.id cluster
      → IsBoxOf m (record {
        id = e.id;
        seq = e.seq;
        depth = s.depth;
        cluster = cluster;
        waits = s.reaches_missing;
      })
  IsBoxOf-from_node s cluster rank clustered = record {
    seq = λ d in_d same. ap (λ (i : Instance). i.seq)
        (IsRising-same m (subst IsRising is.committed is.graph.committed_rise) d e in_d
        (Contains-slice_get m k e at) same);
    depth = IsDepth-from_node m g is k e.id s.depth slice_get-own_node rank.depth;
    cluster = clustered;
    waits = (
      λ h ready. ReachesMissing-not_if_ready m g is k e.id slice_get-own_node ready
          (rank.missing.0 h),
      λ waits. from_not_false s.reaches_missing
          (λ none. waits (IsReady-from_node m g is k e.id slice_get-own_node below
          (λ missing. false≢true (sym none ∙ rank.missing.1 missing)))),
    );
  }

-- Marks of the nodes that are the leader of another node.
use Rattle.std.specs.Prelude.{◌≡◌, ◌≢◌, ◌↔◌, ℕ, ◌<◌, List, Bool, false, length, slice_get}
use Rattle.std.specs.Prelude.{slice_index_or, Some, IsTrue}
use Rattle.epx_graph.specs.Graphs.{DependencyGraph}
use Rattle.epx_components.specs.declared.node_ranks.NodeRank.{NodeRank}
use Rattle.epx_components.specs.between.NodeRanks.{IsNodeRank}

-- a rank for each node
pub record AreNodeRanks (g : DependencyGraph) (node_ranks : List NodeRank) : Type 0 where
  pub nodes : length node_ranks ≡ length g.ids
  pub each : (k : ℕ) (s : NodeRank) → slice_get node_ranks k ≡ Some s → IsNodeRank g k s

-- one of the first n nodes has this leader, and is not the leader itself
pub record LeadsAmong (node_ranks : List NodeRank) (n leader : ℕ) : Type 0 where
  pub node : ℕ
  pub rank : NodeRank
  pub below : node < n
  pub there : slice_get node_ranks node ≡ Some rank
  pub leads : rank.leader ≡ leader
  pub other : node ≢ leader

-- for each node, whether it is the leader of another of the first n nodes
pub record AreLeaderMarks (node_ranks : List NodeRank) (n : ℕ) (marks : List Bool) : Type 0 where
  pub nodes : length marks ≡ length node_ranks
  pub exact : (l : ℕ) → IsTrue (slice_index_or marks l false) ↔ LeadsAmong node_ranks n l

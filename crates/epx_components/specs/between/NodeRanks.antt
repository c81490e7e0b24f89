-- What the execution order needs of a node.
use Rattle.std.specs.Prelude.{◌≡◌, ◌↔◌, ℕ, ◌<◌, List, Bool, false, map, length, slice_index}
use Rattle.std.specs.Prelude.{slice_index_or, All, IsTrue}
use Rattle.epx_graph.specs.Graphs.{DependencyGraph, edges_of}
use Rattle.epx_components.specs.declared.node_ranks.NodeRank.{NodeRank}
use Rattle.epx_components.specs.NodeComponents.{IsNodeLeader}
use Rattle.epx_components.specs.between.NodeDepths.{IsNodeDepth}
use Rattle.epx_components.specs.between.MissingNodes.{ReachesMissing}

-- the node's leader, its depth, and whether it reaches a missing node
pub record IsNodeRank (g : DependencyGraph) (k : ℕ) (s : NodeRank) : Type 0 where
  pub leader : IsNodeLeader (edges_of g) k s.leader
  pub depth : IsNodeDepth (edges_of g) k s.depth
  pub missing : IsTrue s.reaches_missing ↔ ReachesMissing (edges_of g) g.committed k

-- the rank of a component, from lists with a value for each component
abbrev pub node_rank_in : List ℕ → List ℕ → List Bool → ℕ → NodeRank
node_rank_in leaders depths missing c =
    record {
      leader = slice_index leaders c;
      depth = slice_index depths c;
      reaches_missing = slice_index_or missing c false;
    }

-- the rank of each node, which is that of its component
abbrev pub node_ranks_in : List ℕ → List ℕ → List ℕ → List Bool → List NodeRank
node_ranks_in component leaders depths missing =
    map (node_rank_in leaders depths missing) component

-- each list has a value for each component
pub record HasValueForEach (component leaders depths : List ℕ) (missing : List Bool) : Type 0 where
  pub with_leader : All (λ c. c < length leaders) component
  pub with_depth : length depths ≡ length leaders
  pub with_missing : length missing ≡ length leaders

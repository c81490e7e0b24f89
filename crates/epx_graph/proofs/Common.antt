-- The names that the crates above cite, passed on from one place. Declares nothing.
pub use Rattle.epx_graph.specs.GraphOf.{IsGraphOf}
pub use Rattle.epx_graph.specs.Graphs.{DependencyGraph, IsGraph, edges_of, missing_ids}
pub use Rattle.epx_graph.specs.NodePaths.{IsNodePath, NodeReaches}
pub use Rattle.epx_graph.specs.between.NodeSteps.{AreDistancesFrom, AreDistancesTo, AreLeast}
pub use Rattle.epx_graph.specs.between.NodeSteps.{LeadsTo}
pub use Rattle.epx_graph.specs.between.NodeSteps.{distance_at}
pub use Rattle.epx_graph.proofs.GraphExistenceLemmas.{IsGraphOf-exists}
pub use Rattle.epx_graph.proofs.GraphNodeLemmas.{Below-committed, edges_of-from_committed}
pub use Rattle.epx_graph.proofs.GraphNodeLemmas.{edges_of-within}
pub use Rattle.epx_graph.proofs.GraphNodeLemmas.{Below-missing, slice_get-id_of_node, ids-is_unique}
pub use Rattle.epx_graph.proofs.GraphNodeLemmas.{IsNodePath-within}
pub use Rattle.epx_graph.proofs.MapPathLemmas.{committed-count, IsCommitted-not_past}
pub use Rattle.epx_graph.proofs.MapPathLemmas.{committed-if_missing}
pub use Rattle.epx_graph.proofs.MapPathLemmas.{IsCommitted-iff_node, slice_get-instance}
pub use Rattle.epx_graph.proofs.MapPathLemmas.{slice_get-if_committed}
pub use Rattle.epx_graph.proofs.MapPathLemmas.{slice_get-dependency, Below-iff_node}
pub use Rattle.epx_graph.proofs.MapPathLemmas.{NodeReaches-iff}
pub use Rattle.epx_graph.proofs.MapPathLemmas.{NodeReaches-exists}
pub use Rattle.epx_graph.proofs.NeighbourLemmas.{is_lt-from_lt}
pub use Rattle.epx_graph.proofs.NodeStepLemmas.{LeadsTo-node_path}

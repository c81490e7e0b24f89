pub mod Common
mod RisingPositionLemmas
pub mod GraphNodeLemmas
pub mod MapPathLemmas
pub mod GraphUniquenessLemmas
mod MissingIdLemmas
mod RemainderLemmas
pub mod NeighbourLemmas
mod MapNodeLemmas
mod RisingRowLemmas
mod GatherPieceLemmas
mod GatherRowLemmas
mod BuildLemmas
pub mod GraphExistenceLemmas
mod SearchLemmas
pub mod NodeStepLemmas
mod LeastMissingLemmas
mod WaiterLemmas

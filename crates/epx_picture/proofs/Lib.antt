pub mod LeaderMarkLemmas
pub mod ClusterLemmas
pub mod NodeBoxLemmas
pub mod BoxListLemmas
mod BoolLemmas
mod NodeMarkLemmas
mod NeighbourhoodLemmas
mod WithinLemmas
mod PartLemmas
mod MarkedEdgeLemmas
pub mod UniquePictureLemmas
pub mod PictureLemmas
mod PictureAroundLemmas
pub mod FlatMapLemmas

-- Words of private clauses: no public contract speaks of them.
pub mod NodeConflicts
pub mod Touches
pub mod PathCovers
pub mod ReachIndexes
pub mod RelatedTouches
pub mod SourceBits
pub mod DoubtfulKeys
pub mod Batches
pub mod Sources
pub mod UnsettledNodes
pub mod PairMarks

-- Words of private clauses: no public contract speaks of them.
pub mod NodeCounts
pub mod ReachedNodes
pub mod NodeBlockers

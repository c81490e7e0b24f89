-- Words of private clauses: no public contract speaks of them.
pub mod Nodes
pub mod Remainder
pub mod Searches
pub mod Waiters
pub mod LeastMissing

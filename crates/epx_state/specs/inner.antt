-- Words of private clauses: no public contract speaks of them.
pub mod StateProgress
pub mod Restoring
pub mod WrittenLines

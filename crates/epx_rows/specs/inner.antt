-- Words of private clauses: no public contract speaks of them.
pub mod Slots

-- Words of private clauses: no public contract speaks of them.
pub mod KeySlots
pub mod Routes
pub mod Rises

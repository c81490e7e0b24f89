-- Words of private clauses: no public contract speaks of them.
pub mod EqualVersions
pub mod HashedVersions
pub mod BatchNotes

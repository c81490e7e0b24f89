-- Words of private clauses: no public contract speaks of them.
pub mod KeyTouches
pub mod KeyNumbers
pub mod NumberedPairs
pub mod UncoveredRows

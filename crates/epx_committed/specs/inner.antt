-- Words of private clauses: no public contract speaks of them.
pub mod FirstLines
pub mod LeastDisagreement
pub mod LineIndexes
pub mod NumberRanges

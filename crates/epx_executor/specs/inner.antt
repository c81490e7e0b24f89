-- Words of private clauses: no public contract speaks of them.
pub mod Batches
pub mod Filings
pub mod Choices

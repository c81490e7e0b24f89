-- Words of private clauses: no public contract speaks of them.
pub mod NodeLists
pub mod Ends
pub mod SequenceKeys
pub mod ReadyRanks

-- Words of contracts between the crates: no call for users rests on them.
pub mod NodeDepths
pub mod MissingNodes
pub mod NodeRanks
pub mod ReadyMarks
pub mod Partitions
pub mod Collections

-- Words of contracts between the crates: no call for users rests on them.
pub mod VersionLists
pub mod KnownLines
pub mod NotedRows
pub mod ReadMeanings
pub mod NotedLines

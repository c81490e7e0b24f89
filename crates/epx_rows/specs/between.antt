-- Words of contracts between the crates: no call for users rests on them.
pub mod Rows
pub mod OpenRows
pub mod PositionGroups

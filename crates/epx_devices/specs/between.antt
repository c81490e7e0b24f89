-- Words of contracts between the crates: no call for users rests on them.
pub mod LogParts

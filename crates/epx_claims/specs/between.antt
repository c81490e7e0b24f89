-- Words of contracts between the crates: no call for users rests on them.
pub mod Answered
pub mod Count
pub mod ClaimState
pub mod ClaimStep
pub mod Seated

-- Words of private clauses: no public contract speaks of them.
pub mod Starts
pub mod SearchStates
pub mod SearchInvariants
pub mod SearchSteps
pub mod SearchWork

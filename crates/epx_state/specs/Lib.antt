pub mod StateForms
pub mod States
pub mod StateFaults
pub mod Starts
pub mod StateLaws
pub mod inner

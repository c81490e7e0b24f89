pub mod IdNames
pub mod Tasks

pub mod Lines
pub mod Elements
pub mod DependencyList
pub mod OperationList
pub mod Meaning
pub mod Text
pub mod between
pub mod inner

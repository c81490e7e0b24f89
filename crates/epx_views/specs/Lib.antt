pub mod OrderText
pub mod LevelText
pub mod between

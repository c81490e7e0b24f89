pub mod LevelLemmas
pub mod LevelOrderLemmas
pub mod LevelPositionLemmas
pub mod LevelExistenceLemmas

pub mod NodeComponents
pub mod Ranks
pub mod between
pub mod inner

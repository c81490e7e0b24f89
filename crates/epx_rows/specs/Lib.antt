pub mod RowEnds
pub mod between
pub mod inner

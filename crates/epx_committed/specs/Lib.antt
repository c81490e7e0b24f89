pub mod InstanceCounts
pub mod MergedLines
pub mod LineRows
pub mod between
pub mod inner

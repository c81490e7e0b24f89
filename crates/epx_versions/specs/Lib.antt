pub mod SameInstances
pub mod LineVersions
pub mod between
pub mod inner

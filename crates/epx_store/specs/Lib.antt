pub mod Shards
pub mod inner

pub mod EitherReads
pub mod PathReads

pub mod Uncovered
pub mod UncoveredLaws
pub mod between
pub mod inner

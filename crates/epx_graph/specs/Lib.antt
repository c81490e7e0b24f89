pub mod Graphs
pub mod GraphOf
pub mod GraphLaws
pub mod NodePaths
pub mod between
pub mod inner

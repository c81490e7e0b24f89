pub mod Distances
pub mod FirstPaths
pub mod Needs
pub mod WhyLines
pub mod WhyTexts
pub mod WhyLaws
pub mod inner

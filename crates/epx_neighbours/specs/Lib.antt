pub mod Neighbours
pub mod UncoveredNeighbours
pub mod UncoveredLines
pub mod UncoveredTexts
pub mod Mending
pub mod UncoveredTextLaws
pub mod inner

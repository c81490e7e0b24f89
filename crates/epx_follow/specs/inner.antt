-- Words of private clauses: no public contract speaks of them.
pub mod FirstPlaces
pub mod HeldLines
pub mod LinesAhead
pub mod OpenBatches
pub mod PartsTaken

-- Words of private clauses: no public contract speaks of them.
pub mod IdSets
pub mod LineTokens
pub mod Progress
pub mod BaseReadings
pub mod ListReadings
pub mod LinesByKind

-- Words of private clauses: no public contract speaks of them.
pub mod Effects
pub mod Layouts
pub mod LevelTables

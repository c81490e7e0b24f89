-- Words of private clauses: no public contract speaks of them.
pub mod Catalogs
pub mod LogMarks
pub mod NotedLogs
pub mod MissingCounts
pub mod NumberedVersions

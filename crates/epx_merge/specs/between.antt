-- Words of contracts between the crates: no call for users rests on them.
pub mod ReadFaults
pub mod RedundantLines
pub mod ReadPieces
pub mod LinePieces
pub mod LogReaders
pub mod LedgerNotes
pub mod SourceReadings

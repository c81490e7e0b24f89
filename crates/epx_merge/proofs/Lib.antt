mod ReadPieceLemmas
mod LinePieceLemmas
mod RedundantLineLemmas
mod DropsCachedLemmas
pub mod OnwardLemmas
pub mod LogPartLemmas
mod LedgerNoteLemmas
mod LineBatchLemmas
mod LineEndLemmas
mod LineCacheLemmas
mod PlaceOrderLemmas
mod ReadFaultLemmas
mod AnswerLemmas
pub mod UniquenessLemmas
pub mod ExistenceLemmas
pub mod ConsumedLemmas
pub mod ReturnedFaultLemmas
pub mod SourceLemmas
pub mod DeliveredLemmas
pub mod SourceReadingLemmas
mod GatheredLemmas
pub mod MemoryLogLemmas

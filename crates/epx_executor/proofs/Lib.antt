pub mod RunLemmas
mod PairLemmas
mod FilterLemmas
pub mod RemainderLemmas
pub mod CallLineLemmas
mod OrderedLemmas
mod PendingLemmas
mod PendingMapLemmas
mod RefileLemmas
mod PartLemmas
mod PartLineLemmas
mod CallBatchLemmas
mod FilingLemmas
mod FilingMapLemmas
mod FilingSearchLemmas
mod FoundOpsLemmas
mod CommitLemmas
mod FiledAfterLemmas
mod HistoryLemmas
pub mod PrefixLemmas
mod RestartLemmas
mod ChoiceLemmas

mod EqualityLemmas
mod FirstWhereLemmas
pub mod LedgerLemmas
mod LineIndexLemmas
mod LedgerMapLemmas
mod SortedKeyLemmas
mod LedgerCloseLemmas
mod NumberRangeLemmas
mod RowLemmas
mod TakenEntryLemmas
mod LineRowLemmas
mod FirstLineLemmas
mod MergedMapLemmas
pub mod LineOrderLemmas
mod EntryOrderLemmas
pub mod InstanceCountLemmas
pub mod MergedLinesLemmas

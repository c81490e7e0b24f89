pub mod KeyHeadLemmas
pub mod KeyListLemmas
pub mod SortedEntryLemmas
pub mod ShortTextLemmas
pub mod BorrowedKeyLemmas

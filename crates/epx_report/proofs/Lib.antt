pub mod ValueListLemmas
pub mod NamedFormLemmas
pub mod ArrayLemmas
pub mod BadLineLemmas
pub mod SaidLineLemmas
pub mod LineOrderLemmas
pub mod WholeBaseLemmas
pub mod BegunBaseLemmas
pub mod FurtherLineLemmas
pub mod BaseReadingLemmas
pub mod BaseLemmas
pub mod ListLemmas
pub mod LineFeedLemmas
mod LinePieceLemmas
mod LinesByKindLemmas
pub mod WrittenDataLemmas
pub mod ReportFormLemmas
pub mod ReportReadingLemmas
pub mod RisingListLemmas
pub mod ReportBaseLemmas
pub mod IdSetLemmas
pub mod JsonStringLemmas
pub mod JsonValueLemmas
pub mod LineRangeLemmas
pub mod BaseRangeLemmas
pub mod ExecutionRangeLemmas
pub mod LineTextLemmas
pub mod PairLemmas

pub mod LogsWithInputLemmas
pub mod ReturnedFaultLemmas
mod RunEndingLemmas
mod MergedSourceLemmas
pub mod QuestionLemmas
mod ReportPartsLemmas
mod AcceptedLogLemmas
pub mod ReportLemmas
pub mod ReportBaseLemmas
pub mod VerdictLemmas
mod VerdictLineLemmas
pub mod CheckLemmas
mod MemoryTextLemmas
pub mod CoveredTextLemmas
pub mod LawfulListLemmas
pub mod ReportRangeLemmas
pub mod ResumableAnswersLemmas
mod FindingLemmas
mod PlainRunLemmas
mod TaskRunLemmas

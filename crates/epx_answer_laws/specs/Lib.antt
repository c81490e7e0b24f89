pub mod AnswerLaws
pub mod InputAnswerLaws
pub mod SameLineLaws
pub mod FindingLaws
pub mod TraceReportLaws
pub mod CheckLaws
pub mod ResumptionLaws

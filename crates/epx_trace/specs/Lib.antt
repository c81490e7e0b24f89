pub mod Traces
pub mod TraceLines
pub mod TraceTexts
pub mod TraceLaws

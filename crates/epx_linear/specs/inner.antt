-- Words of private clauses: no public contract speaks of them.
pub mod Spans
pub mod HistoryReadings
pub mod MarkedCalls
pub mod CallRows
pub mod AnswerTokens

pub mod LatestLemmas
pub mod PositionLemmas
pub mod RealTimeLemmas
pub mod SpanLemmas
pub mod RankLemmas
pub mod PassLemmas
pub mod FoundLemmas
pub mod AnswerLemmas
pub mod LinearLemmas
pub mod FoundExistsLemmas
mod CallLineLemmas
mod CallRowLemmas
mod CallTokenLemmas
mod CallTableLemmas
mod SpanRankLemmas
mod LostCallLemmas
pub mod SkewLemmas
pub mod HistoryLemmas
mod HistoryPartLemmas
mod LateUniqueLemmas
mod FindingLemmas
pub mod LinearTextLemmas

pub mod ExecutionOrderLemmas
pub mod LawfulExecutionLemmas
pub mod LawfulOrderLemmas
pub mod LawfulPartLemmas
pub mod OrderExistenceLemmas
pub mod OrderLengthLemmas
pub mod RankExistenceLemmas

pub mod RemainingCommandLemmas
pub mod RemainingLemmas
pub mod RemainingPositionLemmas
pub mod ResumedExecutionLemmas
pub mod ResumedMapLemmas

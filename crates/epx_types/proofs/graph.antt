pub mod DependencyLemmas
pub mod WaitingListLemmas
pub mod ReachingLemmas
pub mod ReachingDecisionLemmas
pub mod WaitingLemmas

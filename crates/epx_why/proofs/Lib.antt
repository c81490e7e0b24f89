pub mod MapStepLemmas
pub mod NodeNeedLemmas
pub mod TargetLemmas
pub mod WalkLemmas
pub mod WhyLineLemmas
pub mod UniqueTextLemmas
pub mod TextExistenceLemmas
pub mod WhyTextLemmas
mod NeedLawLemmas

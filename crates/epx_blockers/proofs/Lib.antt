pub mod IdCountLemmas
pub mod BlockingLemmas
pub mod BlockerTextLemmas
mod BlockerSumLemmas
mod NodeCountLemmas
mod ReachedNodeLemmas
mod NodeBlockerLemmas

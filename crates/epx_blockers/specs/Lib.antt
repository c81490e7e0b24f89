pub mod Blocking
pub mod IdCounts
pub mod Blockers
pub mod BlockerLines
pub mod BlockerTexts
pub mod BlockerLaws
pub mod inner

pub mod Runs
pub mod CallLines
pub mod Commits
pub mod ExecutorLaws
pub mod HistoryLaws
pub mod inner

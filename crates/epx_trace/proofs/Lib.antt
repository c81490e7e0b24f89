pub mod KeyTestLemmas
mod CommandPairLemmas
pub mod TraceLemmas

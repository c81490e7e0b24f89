mod PairRangeLemmas
mod ReplayLemmas

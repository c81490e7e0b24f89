pub mod DraftLemmas
pub mod EvaluationLemmas

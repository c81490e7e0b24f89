pub mod AgreementLemmas
pub mod PositionLemmas

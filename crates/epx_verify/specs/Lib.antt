pub mod SaidLines
pub mod SaidTexts
pub mod ListExecutions
pub mod Differences
pub mod VerifyLaws
pub mod inner

pub mod OrderFaults
pub mod OrderFaultLaws
pub mod PrefixFaults
pub mod PrefixFaultLaws
pub mod inner

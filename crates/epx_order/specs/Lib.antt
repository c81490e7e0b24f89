pub use Rattle.epx_ranking.specs.OrderFaults
pub use Rattle.epx_ranking.specs.OrderFaultLaws
pub use Rattle.epx_ranking.specs.PrefixFaults
pub use Rattle.epx_ranking.specs.PrefixFaultLaws

use Rattle.epx_report.proofs.BaseLemmas.{BaseIsNoBadBase-holds}
use Rattle.epx_report.proofs.laws.base_is_no_bad_base.Goals as goal

pub returns : goal.returns
returns c = BaseIsNoBadBase-holds

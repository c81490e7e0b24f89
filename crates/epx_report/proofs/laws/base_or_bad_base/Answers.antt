use Rattle.epx_report.proofs.BaseLemmas.{BaseOrBadBase-holds}
use Rattle.epx_report.proofs.laws.base_or_bad_base.Goals as goal

pub returns : goal.returns
returns c = BaseOrBadBase-holds

use Rattle.epx_report.proofs.BaseLemmas.{BadBaseIsBadAtOneLine-holds}
use Rattle.epx_report.proofs.laws.bad_base_is_bad_at_one_line.Goals as goal

pub returns : goal.returns
returns c = BadBaseIsBadAtOneLine-holds

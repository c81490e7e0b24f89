use Rattle.epx_compare.proofs.NoDifferenceLemmas.{SaysNothingDiffers-iff}
use Rattle.epx_compare.proofs.laws.nothing_differs_where_logs_agree.Goals as goal

pub returns : goal.returns
returns c = SaysNothingDiffers-iff

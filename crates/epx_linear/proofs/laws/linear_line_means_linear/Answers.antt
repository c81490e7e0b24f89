use Rattle.epx_linear.proofs.LinearTextLemmas.{LinearLineMeansLinear-holds}
use Rattle.epx_linear.proofs.laws.linear_line_means_linear.Goals as goal

pub returns : goal.returns
returns c = LinearLineMeansLinear-holds

use Rattle.epx_neighbours.proofs.UncoveredTextLemmas.{CoveredLineMeansCovered-holds}
use Rattle.epx_neighbours.proofs.laws.covered_line_means_covered.Goals as goal

pub returns : goal.returns
returns c = CoveredLineMeansCovered-holds

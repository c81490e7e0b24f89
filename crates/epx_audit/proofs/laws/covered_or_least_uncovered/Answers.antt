use Rattle.epx_audit.proofs.LeastUncoveredLemmas.{IsCovered-or_uncovered}
use Rattle.epx_audit.proofs.laws.covered_or_least_uncovered.Goals as goal

pub returns : goal.returns
returns c = IsCovered-or_uncovered

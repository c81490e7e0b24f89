use Rattle.epx_audit.proofs.UniquePairLemmas.{IsCovered-not_if_uncovered}
use Rattle.epx_audit.proofs.laws.uncovered_pair_shows_not_covered.Goals as goal

pub returns : goal.returns
returns c = IsCovered-not_if_uncovered

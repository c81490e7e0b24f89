use Rattle.epx_audit.proofs.UniquePairLemmas.{IsLeastUncovered-is_unique}
use Rattle.epx_audit.proofs.laws.least_uncovered_pair_is_unique.Goals as goal

pub returns : goal.returns
returns c = IsLeastUncovered-is_unique

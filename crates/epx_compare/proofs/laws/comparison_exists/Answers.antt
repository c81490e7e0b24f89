use Rattle.epx_compare.proofs.ComparisonExistenceLemmas.{IsComparison-exists}
use Rattle.epx_compare.proofs.laws.comparison_exists.Goals as goal

pub returns : goal.returns
returns c = IsComparison-exists

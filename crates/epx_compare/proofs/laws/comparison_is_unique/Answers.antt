use Rattle.epx_compare.proofs.ComparisonLawLemmas.{IsComparison-is_unique}
use Rattle.epx_compare.proofs.laws.comparison_is_unique.Goals as goal

pub returns : goal.returns
returns c = IsComparison-is_unique

use Rattle.epx_compare.proofs.GroupLawLemmas.{DependentsHaveLines-holds}
use Rattle.epx_compare.proofs.laws.dependents_have_lines.Goals as goal

pub returns : goal.returns
returns c = DependentsHaveLines-holds

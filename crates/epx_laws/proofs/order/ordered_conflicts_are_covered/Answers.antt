use Rattle.epx_laws.proofs.NotReachedLemmas.{IsCovered-from_ordered}
use Rattle.epx_laws.proofs.order.ordered_conflicts_are_covered.Goals as goal

pub returns : goal.returns
returns c = IsCovered-from_ordered

use Rattle.epx_laws.proofs.SortedComponentLemmas.{AreSortedComponents-exists}
use Rattle.epx_laws.proofs.algorithm.sorted_components_exist.Goals as goal

pub returns : goal.returns
returns c = AreSortedComponents-exists

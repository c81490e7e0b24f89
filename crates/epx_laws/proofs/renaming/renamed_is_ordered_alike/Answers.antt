use Rattle.epx_laws.proofs.RenamedMapLemmas.{renamed_map-AreOrderedAlike}
use Rattle.epx_laws.proofs.renaming.renamed_is_ordered_alike.Goals as goal

pub returns : goal.returns
returns c = renamed_map-AreOrderedAlike

use Rattle.epx_neighbours.proofs.MendingLemmas.{MendedMapIsCovered-holds}
use Rattle.epx_neighbours.proofs.laws.mended_map_is_covered.Goals as goal

pub returns : goal.returns
returns c = MendedMapIsCovered-holds

use Rattle.epx_laws.proofs.ByLevelLemmas.{IsRearrangement-by_level}
use Rattle.epx_laws.proofs.levels.levels_rearrange.Goals as goal

pub returns : goal.returns
returns c = IsRearrangement-by_level

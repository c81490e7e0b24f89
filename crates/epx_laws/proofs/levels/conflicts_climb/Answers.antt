use Rattle.epx_types.proofs.Common.{IsLevel-rises}
use Rattle.epx_laws.proofs.levels.conflicts_climb.Goals as goal

pub returns : goal.returns
returns c = IsLevel-rises

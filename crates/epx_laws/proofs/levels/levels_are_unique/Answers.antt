use Rattle.epx_types.proofs.Common.{AreLevels-unique}
use Rattle.epx_laws.proofs.levels.levels_are_unique.Goals as goal

pub returns : goal.returns
returns c = AreLevels-unique

use Rattle.epx_types.proofs.Common.{AreLevels-exists}
use Rattle.epx_laws.proofs.levels.levels_exist.Goals as goal

pub returns : goal.returns
returns c = AreLevels-exists

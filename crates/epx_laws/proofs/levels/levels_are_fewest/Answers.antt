use Rattle.epx_types.proofs.Common.{level_count-least}
use Rattle.epx_laws.proofs.levels.levels_are_fewest.Goals as goal

pub returns : goal.returns
returns c = level_count-least

use Rattle.epx_types.proofs.Common.{IsLevel-least}
use Rattle.epx_laws.proofs.levels.levels_are_least.Goals as goal

pub returns : goal.returns
returns c = IsLevel-least

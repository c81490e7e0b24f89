use Rattle.epx_types.proofs.Common.{each_level-reached}
use Rattle.epx_laws.proofs.levels.each_level_is_reached.Goals as goal

pub returns : goal.returns
returns c = each_level-reached

use Rattle.epx_types.proofs.Common.{IsLevel-unique}
use Rattle.epx_laws.proofs.levels.level_is_unique.Goals as goal

pub returns : goal.returns
returns c = IsLevel-unique

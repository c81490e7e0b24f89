use Rattle.epx_types.proofs.Common.{IsLevel-no_conflict}
use Rattle.epx_laws.proofs.levels.level_has_no_conflict.Goals as goal

pub returns : goal.returns
returns c = IsLevel-no_conflict

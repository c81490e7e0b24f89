use Rattle.epx_laws.proofs.ByLevelLemmas.{AreByLevel-in_turn}
use Rattle.epx_laws.proofs.levels.levels_in_turn_are_by_level.Goals as goal

pub returns : goal.returns
returns c = AreByLevel-in_turn

use Rattle.epx_neighbours.proofs.ExistenceLemmas.{UncoveredTextExists-holds}
use Rattle.epx_neighbours.proofs.laws.uncovered_text_exists.Goals as goal

pub returns : goal.returns
returns c = UncoveredTextExists-holds

use Rattle.epx_neighbours.proofs.UncoveredTextLemmas.{UncoveredTextIsUnique-holds}
use Rattle.epx_neighbours.proofs.laws.uncovered_text_is_unique.Goals as goal

pub returns : goal.returns
returns c = UncoveredTextIsUnique-holds

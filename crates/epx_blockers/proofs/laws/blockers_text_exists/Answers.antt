use Rattle.epx_blockers.proofs.BlockerTextLemmas.{BlockersTextExists-holds}
use Rattle.epx_blockers.proofs.laws.blockers_text_exists.Goals as goal

pub returns : goal.returns
returns c = BlockersTextExists-holds

use Rattle.epx_blockers.proofs.BlockerTextLemmas.{BlockersTextIsUnique-holds}
use Rattle.epx_blockers.proofs.laws.blockers_text_is_unique.Goals as goal

pub returns : goal.returns
returns c = BlockersTextIsUnique-holds

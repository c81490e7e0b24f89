use Rattle.epx_why.proofs.UniqueTextLemmas.{PathTextIsUnique-holds}
use Rattle.epx_why.proofs.laws.path_text_is_unique.Goals as goal

pub returns : goal.returns
returns c = PathTextIsUnique-holds

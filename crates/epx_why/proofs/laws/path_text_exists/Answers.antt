use Rattle.epx_why.proofs.TextExistenceLemmas.{PathTextExists-holds}
use Rattle.epx_why.proofs.laws.path_text_exists.Goals as goal

pub returns : goal.returns
returns c = PathTextExists-holds

use Rattle.epx_why.proofs.NeedLawLemmas.{NeedsBeginWithTheMissing-holds}
use Rattle.epx_why.proofs.laws.needs_begin_with_the_missing.Goals as goal

pub returns : goal.returns
returns c = NeedsBeginWithTheMissing-holds

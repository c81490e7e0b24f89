use Rattle.epx_laws.proofs.PrefixLemmas.{IsLawfulPrefix-from_closed}
use Rattle.epx_laws.proofs.prefixes.closed_lists_begin.Goals as goal

pub returns : goal.returns
returns c = IsLawfulPrefix-from_closed

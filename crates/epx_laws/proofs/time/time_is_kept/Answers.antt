use Rattle.epx_laws.proofs.TimeLemmas.{Before-earlier}
use Rattle.epx_laws.proofs.time.time_is_kept.Goals as goal

pub returns : goal.returns
returns c = Before-earlier

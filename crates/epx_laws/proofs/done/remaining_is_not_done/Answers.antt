use Rattle.epx_types.proofs.Common.{Contains-remaining_iff}
use Rattle.epx_laws.proofs.done.remaining_is_not_done.Goals as goal

pub returns : goal.returns
returns c = Contains-remaining_iff

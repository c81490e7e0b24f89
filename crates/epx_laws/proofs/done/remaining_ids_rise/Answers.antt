use Rattle.epx_types.proofs.Common.{IsRising-remaining}
use Rattle.epx_laws.proofs.done.remaining_ids_rise.Goals as goal

pub returns : goal.returns
returns c = IsRising-remaining

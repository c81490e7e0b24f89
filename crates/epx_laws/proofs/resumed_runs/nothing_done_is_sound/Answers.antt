use Rattle.epx_types.proofs.Common.{IsSound-nothing_done}
use Rattle.epx_laws.proofs.resumed_runs.nothing_done_is_sound.Goals as goal

pub returns : goal.returns
returns c = IsSound-nothing_done

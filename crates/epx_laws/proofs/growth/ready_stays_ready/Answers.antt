use Rattle.epx_laws.proofs.LargerMapLemmas.{IsReady-in_more}
use Rattle.epx_laws.proofs.growth.ready_stays_ready.Goals as goal

pub returns : goal.returns
returns c = IsReady-in_more

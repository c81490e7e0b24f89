use Rattle.epx_types.proofs.Common.{IsReady-or_waits}
use Rattle.epx_laws.proofs.reaching.ready_or_waits.Goals as goal

pub returns : goal.returns
returns c = IsReady-or_waits

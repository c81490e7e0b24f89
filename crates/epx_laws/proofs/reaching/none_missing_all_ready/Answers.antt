use Rattle.epx_types.proofs.Common.{IsReady-none_missing}
use Rattle.epx_laws.proofs.reaching.none_missing_all_ready.Goals as goal

pub returns : goal.returns
returns c = IsReady-none_missing

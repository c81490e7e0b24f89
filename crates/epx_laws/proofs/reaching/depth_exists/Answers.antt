use Rattle.epx_types.proofs.Common.{IsDepth-exists}
use Rattle.epx_laws.proofs.reaching.depth_exists.Goals as goal

pub returns : goal.returns
returns c = IsDepth-exists

use Rattle.epx_types.proofs.Common.{IsDepth-falls}
use Rattle.epx_laws.proofs.reaching.depth_falls.Goals as goal

pub returns : goal.returns
returns c = IsDepth-falls

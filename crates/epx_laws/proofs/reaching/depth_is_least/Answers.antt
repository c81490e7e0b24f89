use Rattle.epx_types.proofs.Common.{IsDepth-least}
use Rattle.epx_laws.proofs.reaching.depth_is_least.Goals as goal

pub returns : goal.returns
returns c = IsDepth-least

use Rattle.epx_types.proofs.Common.{IsDepth-unique}
use Rattle.epx_laws.proofs.reaching.depth_is_unique.Goals as goal

pub returns : goal.returns
returns c = IsDepth-unique

use Rattle.epx_types.proofs.Common.{Reaches-dependency}
use Rattle.epx_laws.proofs.reaching.dependencies_are_reached.Goals as goal

pub returns : goal.returns
returns c = Reaches-dependency

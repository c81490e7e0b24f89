use Rattle.epx_types.proofs.Common.{Reaches-trans}
use Rattle.epx_laws.proofs.reaching.reaching_is_transitive.Goals as goal

pub returns : goal.returns
returns c = Reaches-trans

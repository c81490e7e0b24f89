use Rattle.epx_types.proofs.Common.{Reaches-refl}
use Rattle.epx_laws.proofs.reaching.reaching_is_reflexive.Goals as goal

pub returns : goal.returns
returns c = Reaches-refl

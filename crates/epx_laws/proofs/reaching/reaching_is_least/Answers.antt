use Rattle.std.proofs.Common.{◌≡◌, true}
use Rattle.epx_types.proofs.Common.{Reaches-passes}
use Rattle.epx_laws.proofs.reaching.reaching_is_least.Goals as goal

pub returns : goal.returns
returns c = λ m p on. Reaches-passes m (λ x. p x ≡ true) on

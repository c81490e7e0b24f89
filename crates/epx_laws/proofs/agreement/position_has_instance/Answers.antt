use Rattle.epx_types.proofs.Common.{position_of-instance, position_of-found}
use Rattle.epx_laws.proofs.agreement.position_has_instance.Goals as goal

pub returns : goal.returns
returns c = λ m rising x i.
    (position_of-instance m x i, λ h. position_of-found m rising x i h.0 h.1 h.2)

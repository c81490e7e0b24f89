use Rattle.epx_types.proofs.Common.{IsFirstDisagreement-unique}
use Rattle.epx_laws.proofs.agreement.first_disagreement_is_unique.Goals as goal

pub returns : goal.returns
returns c = IsFirstDisagreement-unique

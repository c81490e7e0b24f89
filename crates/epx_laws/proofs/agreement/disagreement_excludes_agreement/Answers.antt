use Rattle.epx_types.proofs.Common.{IsFirstDisagreement-not_Agree}
use Rattle.epx_laws.proofs.agreement.disagreement_excludes_agreement.Goals as goal

pub returns : goal.returns
returns c = IsFirstDisagreement-not_Agree

use Rattle.epx_merge.proofs.UniquenessLemmas.{IsRefusal-of_accepted}
use Rattle.epx_merge.proofs.laws.accepted_is_not_refused.Goals as goal

pub returns : goal.returns
returns c = λ logs m f accepted other refused.
    other (IsRefusal-of_accepted logs m f accepted refused)

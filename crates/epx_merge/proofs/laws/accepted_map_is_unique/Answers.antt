use Rattle.epx_merge.proofs.UniquenessLemmas.{IsAccepted-is_unique}
use Rattle.epx_merge.proofs.laws.accepted_map_is_unique.Goals as goal

pub returns : goal.returns
returns c = IsAccepted-is_unique

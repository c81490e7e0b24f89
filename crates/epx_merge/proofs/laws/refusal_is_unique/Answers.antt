use Rattle.epx_merge.proofs.UniquenessLemmas.{IsRefusal-is_unique}
use Rattle.epx_merge.proofs.laws.refusal_is_unique.Goals as goal

pub returns : goal.returns
returns c = IsRefusal-is_unique

use Rattle.epx_compare.proofs.GapLawLemmas.{AreGaps-gaps_of}
use Rattle.epx_compare.proofs.laws.gaps_are_of_the_lacked.Goals as goal

pub returns : goal.returns
returns c = AreGaps-gaps_of

use Rattle.epx_follow.proofs.PlaceOrderLemmas.{FirstLinesAreEarliest-holds}
use Rattle.epx_follow.proofs.laws.first_lines_are_earliest.Goals as goal

pub returns : goal.returns
returns c = FirstLinesAreEarliest-holds

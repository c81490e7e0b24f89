use Rattle.epx_merge.proofs.PlaceOrderLemmas.{IsFirstBadLine-least}
use Rattle.epx_merge.proofs.laws.named_bad_line_is_least.Goals as goal

pub returns : goal.returns
returns c = IsFirstBadLine-least

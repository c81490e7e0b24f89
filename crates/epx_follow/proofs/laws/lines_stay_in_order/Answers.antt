use Rattle.epx_follow.proofs.PlaceOrderLemmas.{LinesStayInOrder-holds}
use Rattle.epx_follow.proofs.laws.lines_stay_in_order.Goals as goal

pub returns : goal.returns
returns c = LinesStayInOrder-holds

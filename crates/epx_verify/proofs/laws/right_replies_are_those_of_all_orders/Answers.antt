use Rattle.epx_verify.proofs.DifferenceLemmas.{list_execution-right_replies}
use Rattle.epx_verify.proofs.laws.right_replies_are_those_of_all_orders.Goals as goal

pub returns : goal.returns
returns c = list_execution-right_replies

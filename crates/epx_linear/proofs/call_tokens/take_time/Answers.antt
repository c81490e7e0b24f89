use Rattle.epx_linear.proofs.CallTokenLemmas.{ParsesTo-time}
use Rattle.epx_linear.proofs.call_tokens.take_time.Goals as goal

pub returns : goal.returns
returns c = ParsesTo-time _ _ _ c.in_ok-take_time_or_null.ensures

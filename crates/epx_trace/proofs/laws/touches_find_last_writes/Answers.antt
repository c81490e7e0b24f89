use Rattle.epx_trace.proofs.TraceLemmas.{TouchesFindLastWrites-holds}
use Rattle.epx_trace.proofs.laws.touches_find_last_writes.Goals as goal

pub returns : goal.returns
returns c = TouchesFindLastWrites-holds

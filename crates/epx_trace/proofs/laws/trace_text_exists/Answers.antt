use Rattle.epx_trace.proofs.TraceLemmas.{TraceTextExists-holds}
use Rattle.epx_trace.proofs.laws.trace_text_exists.Goals as goal

pub returns : goal.returns
returns c = TraceTextExists-holds

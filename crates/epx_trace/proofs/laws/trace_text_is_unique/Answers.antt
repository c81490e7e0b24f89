use Rattle.epx_trace.proofs.TraceLemmas.{TraceTextIsUnique-holds}
use Rattle.epx_trace.proofs.laws.trace_text_is_unique.Goals as goal

pub returns : goal.returns
returns c = TraceTextIsUnique-holds

use Rattle.epx_answer_laws.proofs.TraceReportLemmas.{TraceEndsInTheStore-holds}
use Rattle.epx_answer_laws.proofs.reports.trace_ends_in_the_store.Goals as goal

pub returns : goal.returns
returns c = TraceEndsInTheStore-holds

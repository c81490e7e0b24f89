use Rattle.epx_answer_laws.proofs.TraceLineLemmas.{LastWriteLineIsTheStoreLine-holds}
use Rattle.epx_answer_laws.proofs.reports.last_write_line_is_the_store_line.Goals as goal

pub returns : goal.returns
returns c = LastWriteLineIsTheStoreLine-holds

use Rattle.epx_report.proofs.ReportBaseLemmas.{DoneAfterExists-holds}
use Rattle.epx_report.proofs.laws.done_after_exists.Goals as goal

pub returns : goal.returns
returns c = DoneAfterExists-holds

use Rattle.epx_report.proofs.ReportBaseLemmas.{ReportIsABase-holds}
use Rattle.epx_report.proofs.laws.report_is_a_base.Goals as goal

pub returns : goal.returns
returns c = ReportIsABase-holds

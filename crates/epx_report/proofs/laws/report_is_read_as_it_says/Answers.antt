use Rattle.epx_report.proofs.ReportReadingLemmas.{ReportIsReadAsItSays-holds}
use Rattle.epx_report.proofs.laws.report_is_read_as_it_says.Goals as goal

pub returns : goal.returns
returns c = ReportIsReadAsItSays-holds

use Rattle.epx_tool.proofs.ReportBaseLemmas.{IsBase-report}
use Rattle.epx_answer_laws.proofs.reports.report_is_base.Goals as goal

pub returns : goal.returns
returns c = IsBase-report

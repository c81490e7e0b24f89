use Rattle.epx_tool.proofs.ReportBaseLemmas.{IsReportAfter-nil}
use Rattle.epx_tool.proofs.ReportLemmas.{IsReport-after_nothing}
use Rattle.epx_answer_laws.proofs.reports.report_is_after_nothing.Goals as goal

pub returns : goal.returns
returns c = λ m text. (IsReportAfter-nil m text, IsReport-after_nothing m text)

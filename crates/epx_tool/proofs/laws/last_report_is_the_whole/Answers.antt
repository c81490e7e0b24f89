use Rattle.epx_tool.proofs.ResumableAnswersLemmas as proved
use Rattle.epx_tool.proofs.laws.last_report_is_the_whole.Goals as goal

pub returns : goal.returns
returns c = proved.LastReportIsTheWhole-holds

use Rattle.epx_tool.proofs.ResumableAnswersLemmas as proved
use Rattle.epx_tool.proofs.laws.resumed_report_repeats_the_whole.Goals as goal

pub returns : goal.returns
returns c = proved.ResumedReportRepeatsTheWhole-holds

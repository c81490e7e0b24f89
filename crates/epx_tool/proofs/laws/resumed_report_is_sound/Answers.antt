use Rattle.epx_tool.proofs.ResumableAnswersLemmas as proved
use Rattle.epx_tool.proofs.laws.resumed_report_is_sound.Goals as goal

pub returns : goal.returns
returns c = proved.ResumedReportIsSound-holds

use Rattle.epx_tool.proofs.ResumableAnswersLemmas as proved
use Rattle.epx_tool.proofs.laws.report_of_a_part_is_sound.Goals as goal

pub returns : goal.returns
returns c = proved.ReportOfAPartIsSound-holds

use Rattle.epx_tool.proofs.ResumableAnswersLemmas as proved
use Rattle.epx_tool.proofs.laws.resumption_is_base.Goals as goal

pub returns : goal.returns
returns c = proved.ResumptionIsBase-holds

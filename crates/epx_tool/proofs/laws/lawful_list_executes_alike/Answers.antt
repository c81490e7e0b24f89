use Rattle.epx_tool.proofs.LawfulListLemmas.{LawfulListExecutesAlike-holds}
use Rattle.epx_tool.proofs.laws.lawful_list_executes_alike.Goals as goal

pub returns : goal.returns
returns c = LawfulListExecutesAlike-holds

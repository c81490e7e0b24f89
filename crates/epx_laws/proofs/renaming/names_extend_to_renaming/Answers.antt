use Rattle.epx_laws.proofs.NameLemmas.{names-renaming}
use Rattle.epx_laws.proofs.renaming.names_extend_to_renaming.Goals as goal

pub returns : goal.returns
returns c = names-renaming

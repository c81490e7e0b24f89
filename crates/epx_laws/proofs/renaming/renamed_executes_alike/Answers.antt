use Rattle.epx_laws.proofs.RenamedExecutionLemmas.{execute-renamed}
use Rattle.epx_laws.proofs.renaming.renamed_executes_alike.Goals as goal

pub returns : goal.returns
returns c = execute-renamed

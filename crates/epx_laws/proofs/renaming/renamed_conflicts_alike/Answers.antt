use Rattle.epx_laws.proofs.RenamedConflictLemmas.{Conflict-renamed_iff}
use Rattle.epx_laws.proofs.renaming.renamed_conflicts_alike.Goals as goal

pub returns : goal.returns
returns c = Conflict-renamed_iff

use Rattle.epx_laws.proofs.RenamedConflictLemmas.{AreLevels-renamed_iff}
use Rattle.epx_laws.proofs.renaming.renamed_levels_are_alike.Goals as goal

pub returns : goal.returns
returns c = AreLevels-renamed_iff

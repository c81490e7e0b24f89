use Rattle.epx_laws.proofs.RenamedMapLemmas.{whole_run-renamed, run_on-renamed}
use Rattle.epx_laws.proofs.renaming.renamed_runs_alike.Goals as goal

pub returns : goal.returns
returns c = record { whole = whole_run-renamed; resumed = run_on-renamed }

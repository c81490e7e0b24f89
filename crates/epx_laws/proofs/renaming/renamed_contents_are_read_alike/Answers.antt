use Rattle.epx_laws.proofs.RenamedContentsLemmas.{get-renamed, get-other}
use Rattle.epx_laws.proofs.renaming.renamed_contents_are_read_alike.Goals as goal

pub returns : goal.returns
returns c = record { named = get-renamed; others = get-other }

use Rattle.epx_laws.proofs.RenamedLineLemmas.{IsCommittedBy-renamed_iff}
use Rattle.epx_laws.proofs.RenamedLineLemmas.{IsFirstDisagreement-renamed_iff}
use Rattle.epx_laws.proofs.renaming.renamed_lines_commit_alike.Goals as goal

pub returns : goal.returns
returns c = record {
  committed = IsCommittedBy-renamed_iff;
  disagreement = IsFirstDisagreement-renamed_iff;
}

use Rattle.epx_answer_laws.proofs.LawfulPrefixLemmas.{LawfulTextMeansPrefix-holds}
use Rattle.epx_answer_laws.proofs.checks.lawful_text_means_prefix.Goals as goal

pub returns : goal.returns
returns c = LawfulTextMeansPrefix-holds

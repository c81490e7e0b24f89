use Rattle.epx_answer_laws.proofs.LawfulPrefixLemmas.{LawfulPrefixRepliesAlike-holds}
use Rattle.epx_answer_laws.proofs.checks.lawful_prefix_replies_alike.Goals as goal

pub returns : goal.returns
returns c = LawfulPrefixRepliesAlike-holds

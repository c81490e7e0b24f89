use Rattle.epx_answer_laws.proofs.LawfulPrefixLemmas.{WholeListsAreAnsweredAlike-holds}
use Rattle.epx_answer_laws.proofs.checks.whole_lists_are_answered_alike.Goals as goal

pub returns : goal.returns
returns c = WholeListsAreAnsweredAlike-holds

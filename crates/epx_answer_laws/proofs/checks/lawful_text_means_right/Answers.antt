use Rattle.epx_answer_laws.proofs.SaidAnswerLemmas.{LawfulTextMeansRight-holds}
use Rattle.epx_answer_laws.proofs.checks.lawful_text_means_right.Goals as goal

pub returns : goal.returns
returns c = LawfulTextMeansRight-holds c.text_says_one_thing.ensures
    c.no_difference_if_right.ensures

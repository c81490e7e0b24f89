use Rattle.epx_answer_laws.proofs.InputAnswerLemmas.{InputAnswerIsUnique-holds}
use Rattle.epx_answer_laws.proofs.answers.input_answer_is_unique.Goals as goal

pub returns : goal.returns
returns c =
    InputAnswerIsUnique-holds c.text_says_one_thing.ensures c.uncovered_text_is_unique.ensures
    c.said_is_no_bad_said.ensures c.bad_said_is_bad_at_one_line.ensures

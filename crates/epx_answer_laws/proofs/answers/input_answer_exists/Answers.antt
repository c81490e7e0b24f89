use Rattle.epx_answer_laws.proofs.InputAnswerLemmas.{InputAnswerExists-holds}
use Rattle.epx_answer_laws.proofs.answers.input_answer_exists.Goals as goal

pub returns : goal.returns
returns c = InputAnswerExists-holds c.said_or_bad_said.ensures c.picture_around_exists.ensures
    c.uncovered_text_exists.ensures

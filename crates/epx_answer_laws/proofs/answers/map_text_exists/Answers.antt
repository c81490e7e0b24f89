use Rattle.epx_answer_laws.proofs.AnswerLemmas.{IsTaskText-exists}
use Rattle.epx_answer_laws.proofs.answers.map_text_exists.Goals as goal

pub returns : goal.returns
returns c = λ task alone other m rising.
    IsTaskText-exists m rising c.picture_around_exists.ensures c.uncovered_text_exists.ensures task
    alone other

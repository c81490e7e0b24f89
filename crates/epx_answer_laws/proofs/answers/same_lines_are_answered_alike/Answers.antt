use Rattle.epx_answer_laws.proofs.SameLineLemmas.{IsAccepted-same_lines}
use Rattle.epx_answer_laws.proofs.answers.same_lines_are_answered_alike.Goals as goal

pub returns : goal.returns
returns c = λ logs other has has' fit task input text answer.
    (answer.0, IsAccepted-same_lines logs other has has' fit answer.0 answer.1, answer.2)

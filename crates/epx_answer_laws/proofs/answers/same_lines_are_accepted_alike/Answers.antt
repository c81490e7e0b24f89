use Rattle.epx_answer_laws.proofs.SameLineLemmas.{IsAccepted-same_lines}
use Rattle.epx_answer_laws.proofs.answers.same_lines_are_accepted_alike.Goals as goal

pub returns : goal.returns
returns c = IsAccepted-same_lines

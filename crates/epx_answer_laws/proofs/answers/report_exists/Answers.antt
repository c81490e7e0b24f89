use Rattle.epx_answer_laws.proofs.AnswerLemmas.{IsReport-exists}
use Rattle.epx_answer_laws.proofs.answers.report_exists.Goals as goal

pub returns : goal.returns
returns c = IsReport-exists

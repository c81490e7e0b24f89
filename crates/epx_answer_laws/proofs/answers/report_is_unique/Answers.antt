use Rattle.epx_answer_laws.proofs.UniqueAnswerLemmas.{IsReport-unique}
use Rattle.epx_answer_laws.proofs.answers.report_is_unique.Goals as goal

pub returns : goal.returns
returns c = IsReport-unique

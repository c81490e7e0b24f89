use Rattle.epx_tool.specs.Report.{IsReport}
use Rattle.epx_answer_laws.proofs.AnswerLemmas.{IsReport-exists, Answers-exists}
use Rattle.epx_answer_laws.proofs.answers.answer_exists.Goals as goal

pub returns : goal.returns
returns c = Answers-exists IsReport IsReport-exists

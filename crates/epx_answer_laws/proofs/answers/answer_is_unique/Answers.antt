use Rattle.epx_tool.specs.Report.{IsReport}
use Rattle.epx_answer_laws.proofs.UniqueAnswerLemmas.{IsReport-unique, Answers-unique}
use Rattle.epx_answer_laws.proofs.answers.answer_is_unique.Goals as goal

pub returns : goal.returns
returns c = Answers-unique IsReport IsReport-unique

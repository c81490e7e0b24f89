use Rattle.epx_tool.specs.TaskAnswers.{task_of}
use Rattle.epx_answer_laws.proofs.UniqueAnswerLemmas.{AnswersLogs-unique}
use Rattle.epx_answer_laws.proofs.answers.view_is_unique.Goals as goal

pub returns : goal.returns
returns c = λ ask. AnswersLogs-unique c.text_says_one_thing.ensures
    c.uncovered_text_is_unique.ensures (task_of ask)

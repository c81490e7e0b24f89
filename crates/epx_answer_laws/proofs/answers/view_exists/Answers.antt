use Rattle.epx_tool.specs.TaskAnswers.{task_of}
use Rattle.epx_answer_laws.proofs.AnswerLemmas.{AnswersLogs-exists}
use Rattle.epx_tool.proofs.QuestionLemmas.{HasInput-not_view}
use Rattle.epx_answer_laws.proofs.answers.view_exists.Goals as goal

pub returns : goal.returns
returns c = λ ask. AnswersLogs-exists c.picture_around_exists.ensures
    c.uncovered_text_exists.ensures (task_of ask) (HasInput-not_view ask)

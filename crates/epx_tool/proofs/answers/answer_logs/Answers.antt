use Rattle.epx_merge.specs.LogLines.{bytes_of}
use Rattle.epx_tool.proofs.AcceptedLogLemmas.{length-accepted_within}
use Rattle.epx_tool.proofs.QuestionLemmas.{AnswersLogs-text}
use Rattle.epx_tool.proofs.answers.answer_logs.Goals as goal

pub text_of-requires-clause-few : goal.text_of-requires-clause-few
text_of-requires-clause-few g c κs within =
    length-accepted_within (bytes_of c.args.logs.now) c.in-Ok.merged c.in-Ok.ensures

pub returns : goal.returns
returns g c =
    let asks = c.in-Some.ensures.some in
    let m = c.in-Ok.merged in
    let text = c.in_ok-answer.answer.text.items in
    AnswersLogs-text (bytes_of c.args.logs.now) c.args.task asks.of_map text
    (m, c.in-Ok.ensures, asks.text m text c.in_ok-answer.ensures.text)

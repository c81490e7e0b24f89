use Rattle.std.proofs.Common.{ℕ, Bool, Ok, Vec, Global, subst, sym}
use Rattle.epx_tool.specs.Findings.{IsFindingText}
use Rattle.epx_tool.specs.TaskAnswers.{IsBadInput}
use Rattle.epx_tool.specs.WithInput.{AnswersWithInput}
use Rattle.epx_tool.proofs.AcceptedLogLemmas.{length-accepted_within}
use Rattle.epx_tool.proofs.QuestionLemmas.{IsFindingText-asked}
use Rattle.epx_tool.proofs.answer_task.answer_with_input.Goals as goal

pub shown_text-requires-clause-few : goal.shown_text-requires-clause-few
shown_text-requires-clause-few g c κs within =
    let both = c.in-Ok.ensures in
    let read = both.3 in
    length-accepted_within both.1 c.in-Ok.read.0 read.1

pub returns-in-Err : goal.returns-in-Err
returns-in-Err g c = c.in-Err.ensures

pub returns : goal.returns
returns g c =
    let both = c.in-Ok.ensures in
    let input = both.0 in
    let logs = both.1 in
    let read = both.3 in
    let task = c.args.task in
    let m = c.in-Ok.read.0 in
    let answer = c.in-Ok-shown_text.answer in
    let said = c.in-Ok-shown_text.ensures in
    let found = IsFindingText-asked task input c.in-Ok.read.1 read.2 answer.has_findings m
    answer.text.items (said.text, said.found) in (
      input,
      logs,
      both.2,
      subst (λ (text : Vec ℕ Global). AnswersWithInput (IsBadInput task)
          (IsFindingText task c.about.result.has_findings) input logs (Ok text.items))
          (sym c.about.ensures.text)
          (subst (λ (found : Bool). AnswersWithInput (IsBadInput task) (IsFindingText task found)
          input logs (Ok answer.text.items)) (sym c.about.ensures.found)
          (read.0, (m, read.1, found))),
    )

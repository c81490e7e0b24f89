use Rattle.std.proofs.Common.{Ok, Err, MatchResult, sym, subst}
use Rattle.epx_names.specs.declared.task.Task.{Task}
use Rattle.epx_tool.specs.Findings.{AnswersFinding}
use Rattle.epx_tool.specs.TaskAnswers.{AnswersLogs}
use Rattle.epx_merge.specs.between.SourceReadings.{EndsMaking}
use Rattle.epx_tool.proofs.QuestionLemmas.{EndsMaking-of_question}
use Rattle.epx_tool.proofs.answer_task.answer_sources.Goals as goal

pub returns-in-Some : goal.returns-in-Some
returns-in-Some g c =
    EndsMaking-of_question g.S.Source.model _ _ c.args.task c.in-Some.question
    c.in-Some.ensures.some
    c.answer_merged.result c.answer_merged.ensures

pub returns-in-None : goal.returns-in-None
returns-in-None g c =
    let D = g.S.Source.model in
    let new = c.answer_compared.new.sources in
    subst (λ (task : Task). MatchResult c.answer_compared.result
    (λ a. EndsMaking D (AnswersFinding task a.has_findings) c.args.sources.now new
    (Ok a.text.items))
    (λ fault. EndsMaking D (AnswersLogs task) c.args.sources.now new (Err fault)))
    (sym c.in-None.ensures.none) c.answer_compared.ensures

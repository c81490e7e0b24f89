use Rattle.epx_tool.proofs.PlainRunLemmas.{EndsRun-plain}
use Rattle.epx_tool.proofs.task_runs.write_answer.Goals as goal

pub returns-in-Ok : goal.returns-in-Ok
returns-in-Ok g c =
    EndsRun-plain g.S.Source.model c.args.task c.in-Ok.answer.has_findings _ _ g.W.Sink.model _ _
    (c.in-Ok.ensures.alone c.requires.alone)

pub returns-in-Err : goal.returns-in-Err
returns-in-Err g c = c.in-Err.ensures.alone c.requires.alone

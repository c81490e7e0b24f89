use Rattle.epx_tool.proofs.PlainRunLemmas.{EndsRunWithInput-plain}
use Rattle.epx_tool.proofs.task_runs.write_with_input.Goals as goal

pub returns-in-Ok : goal.returns-in-Ok
returns-in-Ok g c =
    EndsRunWithInput-plain g.S.Source.model c.args.task c.in-Ok.answer.has_findings _ _
    g.I.Source.model _ _ g.W.Sink.model _ _ (c.in-Ok.ensures.with_input c.requires.task)

pub returns-in-Err : goal.returns-in-Err
returns-in-Err g c = c.in-Err.ensures.with_input c.requires.task

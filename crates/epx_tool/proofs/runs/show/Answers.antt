use Rattle.epx_tool.proofs.runs.show.Goals as goal

pub returns-clause-prefix : goal.returns-clause-prefix
returns-clause-prefix g c = rw c.from.ensures at c.write_answer.ensures.sink.prefix

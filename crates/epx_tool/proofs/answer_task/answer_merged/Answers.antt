use Rattle.epx_tool.proofs.AcceptedLogLemmas.{length-accepted_within}
use Rattle.epx_tool.proofs.answer_task.answer_merged.Goals as goal

pub shown_text-requires-clause-few : goal.shown_text-requires-clause-few
shown_text-requires-clause-few g c κs within =
    let h = c.in-Ok.ensures in length-accepted_within h.0 c.in-Ok.merged h.2

use Rattle.std.proofs.Common.{ap, ◌∙◌}
use Rattle.epx_executor.specs.Runs.{ids_in}
use Rattle.epx_executor.proofs.RunLemmas.{ids_in-nil}
use Rattle.epx_executor.proofs.done_runs.DoneRuns.new.Goals as goal

pub returns : goal.returns
returns c = ap ids_in c.new.ensures.items ∙ ids_in-nil

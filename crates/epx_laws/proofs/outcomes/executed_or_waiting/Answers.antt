use Rattle.epx_laws.proofs.OutcomeLemmas.{EachHasOneOutcome-holds}
use Rattle.epx_laws.proofs.outcomes.executed_or_waiting.Goals as goal

pub returns : goal.returns
returns c = EachHasOneOutcome-holds

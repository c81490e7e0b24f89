use Rattle.epx_laws.proofs.OutcomeLemmas.{WaitsFor-iff}
use Rattle.epx_laws.proofs.reaching.waits_where_missing.Goals as goal

pub returns : goal.returns
returns c = WaitsFor-iff

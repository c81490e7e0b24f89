use Rattle.epx_types.proofs.Common.{WaitsFor-unique}
use Rattle.epx_laws.proofs.reaching.waits_for_one.Goals as goal

pub returns : goal.returns
returns c = WaitsFor-unique

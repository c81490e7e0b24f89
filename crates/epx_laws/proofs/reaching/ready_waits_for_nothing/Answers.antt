use Rattle.epx_types.proofs.Common.{IsReady-not_waiting, IsReady-from_no_wait}
use Rattle.epx_laws.proofs.reaching.ready_waits_for_nothing.Goals as goal

pub returns : goal.returns
returns c = λ m x committed.
    ((λ ready y. IsReady-not_waiting m x y ready), IsReady-from_no_wait m x committed)

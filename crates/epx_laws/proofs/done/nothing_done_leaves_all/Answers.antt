use Rattle.epx_types.proofs.Common.{remaining-nil}
use Rattle.epx_laws.proofs.done.nothing_done_leaves_all.Goals as goal

pub returns : goal.returns
returns c = remaining-nil

use Rattle.epx_types.proofs.Common.{Conflict-symm}
use Rattle.epx_laws.proofs.conflicts.conflict_is_symmetric.Goals as goal

pub returns : goal.returns
returns c = Conflict-symm

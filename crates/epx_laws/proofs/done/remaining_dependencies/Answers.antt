use Rattle.epx_types.proofs.Common.{DependsOn-remaining}
use Rattle.epx_laws.proofs.done.remaining_dependencies.Goals as goal

pub returns : goal.returns
returns c = DependsOn-remaining

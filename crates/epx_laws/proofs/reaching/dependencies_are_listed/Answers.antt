use Rattle.epx_types.proofs.Common.{DependsOn-committed, DependsOn-listed}
use Rattle.epx_laws.proofs.reaching.dependencies_are_listed.Goals as goal

pub returns : goal.returns
returns c = record { committed = DependsOn-committed; listed = DependsOn-listed }

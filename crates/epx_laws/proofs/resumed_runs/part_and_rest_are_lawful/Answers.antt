use Rattle.std.proofs.Common.{Contains}
use Rattle.epx_types.proofs.Common.{IsLawful-part_and_rest}
use Rattle.epx_laws.proofs.resumed_runs.part_and_rest_are_lawful.Goals as goal

pub returns : goal.returns
returns c = λ m part whole ready closed lawful lawful'. IsLawful-part_and_rest m (Contains part)
    ready closed part whole lawful lawful'

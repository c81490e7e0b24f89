use Rattle.epx_types.proofs.Common.{instance_of-iff_contains}
use Rattle.epx_laws.proofs.agreement.look_up_finds_instance.Goals as goal

pub returns : goal.returns
returns c = instance_of-iff_contains

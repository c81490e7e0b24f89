use Rattle.epx_types.proofs.Common.{apply_writes-writes_of}
use Rattle.epx_laws.proofs.commands.writes_are_the_effect.Goals as goal

pub returns : goal.returns
returns c = apply_writes-writes_of

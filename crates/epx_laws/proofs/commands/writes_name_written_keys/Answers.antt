use Rattle.epx_types.proofs.Common.{writes_of-written}
use Rattle.epx_laws.proofs.commands.writes_name_written_keys.Goals as goal

pub returns : goal.returns
returns c = writes_of-written

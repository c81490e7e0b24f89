use Rattle.epx_types.proofs.Common.{writes_of-distinct}
use Rattle.epx_laws.proofs.commands.no_key_written_twice.Goals as goal

pub returns : goal.returns
returns c = writes_of-distinct

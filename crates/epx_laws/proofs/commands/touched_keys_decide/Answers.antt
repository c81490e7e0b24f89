use Rattle.epx_types.proofs.Common.{command_on-HasSameOutcome, writes_of-alike}
use Rattle.epx_laws.proofs.commands.touched_keys_decide.Goals as goal

pub returns : goal.returns
returns c = λ ops c d agree.
    ((command_on-HasSameOutcome ops c d agree).0, writes_of-alike ops c d agree)

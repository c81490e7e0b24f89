use Rattle.epx_trace.proofs.TraceLemmas.{LastWriteIsStored-holds}
use Rattle.epx_trace.proofs.laws.last_write_is_stored.Goals as goal

pub returns : goal.returns
returns c = LastWriteIsStored-holds

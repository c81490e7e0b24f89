use Rattle.std.proofs.Common.{◌-◌, length}
use Rattle.epx_devices.proofs.TransferLemmas.{IsWritten}
use Rattle.epx_devices.proofs.transfer.write_out.Given as goal

abbrev pub invariant-loop-taken : goal.invariant-loop-taken
invariant-loop-taken g l = IsWritten g.W.Sink.model l.fn.sink l.sink l.bytes
    l.taken

abbrev pub decreases-loop-taken : goal.decreases-loop-taken
decreases-loop-taken g l = length l.bytes - l.taken

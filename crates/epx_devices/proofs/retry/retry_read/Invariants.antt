use Rattle.std.proofs.Common.{◌≡◌, length}
use Rattle.epx_types.proofs.Common.{Keeps}
use Rattle.epx_devices.proofs.retry.retry_read.Given as goal

abbrev pub invariant-loop : goal.invariant-loop
invariant-loop g l = (length l.part ≡ length l.initial.part)
    × Keeps (g.R.Read.remaining l.initial.reader) (g.R.Read.remaining l.reader)

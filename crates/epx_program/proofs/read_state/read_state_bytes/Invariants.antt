use Rattle.std.proofs.Common.{◌+◌, ◌-◌, ◌^◌, length}
use Rattle.epx_devices.specs.Deliveries.{Delivers}
use Rattle.epx_program.proofs.read_state.read_state_bytes.Given as goal

-- reads of the source returned these bytes so far
abbrev pub invariant-loop-part : goal.invariant-loop-part
invariant-loop-part g l = Delivers g.S.Source.model l.fn.source l.source l.bytes.items

abbrev pub decreases-loop-part : goal.decreases-loop-part
decreases-loop-part g l = 2 ^ 62 + 1 - length l.bytes.items

use Rattle.std.proofs.Common.{take, flat_map}
use Rattle.epx_types.proofs.Common.{accesses_of}
use Rattle.epx_apply.specs.inner.LevelTables.{AddsAccesses}
use Rattle.epx_apply.proofs.key_table.KeyTable.least_above.Given as goal

-- the keys of the operations so far are added
abbrev pub invariant-loop-op : goal.invariant-loop-op
invariant-loop-op l = AddsAccesses (flat_map accesses_of (take l.op-index l.ops)) l.fn.self l.self

use Rattle.std.proofs.Common.{◌≡◌, drop}
use Rattle.epx_types.proofs.Common.{list_any, written_by, written_keys}
use Rattle.epx_trace.specs.Traces.{has_key}
use Rattle.epx_trace.proofs.command_keys.has_write.Given as goal

abbrev pub invariant-loop-op : goal.invariant-loop-op
invariant-loop-op l = list_any (λ op. has_key (written_by op) l.key) (drop l.op-index l.ops)
    ≡ has_key (written_keys l.ops) l.key

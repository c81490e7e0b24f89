use Rattle.std.proofs.Common.{◌≡◌, map, flat_map, drop}
use Rattle.epx_types.specs.Keys.{add_keys}
use Rattle.epx_types.specs.CommandKeys.{written_by, written_keys}
use Rattle.epx_types.proofs.command_keys.written.Given as goal

abbrev pub invariant-loop-op : goal.invariant-loop-op
invariant-loop-op l = add_keys (map (λ k. k.now) l.keys.keys)
    (flat_map written_by (drop l.op-index l.ops)) ≡ written_keys l.ops

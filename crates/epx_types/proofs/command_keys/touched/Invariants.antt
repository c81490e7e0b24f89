use Rattle.std.proofs.Common.{◌≡◌, map, flat_map, drop}
use Rattle.epx_types.specs.Keys.{add_keys}
use Rattle.epx_types.specs.CommandKeys.{touched_by, touched_keys}
use Rattle.epx_types.proofs.command_keys.touched.Given as goal

abbrev pub invariant-loop-op : goal.invariant-loop-op
invariant-loop-op l = add_keys (map (λ k. k.now) l.keys.keys)
    (flat_map touched_by (drop l.op-index l.ops)) ≡ touched_keys l.ops

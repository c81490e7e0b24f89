use Rattle.std.proofs.Common.{◌≡◌, map, flat_map, drop}
use Rattle.epx_types.proofs.Common.{add_keys, touched_by}
use Rattle.epx_neighbours.proofs.key_numbers.add_command.Given as goal

abbrev pub invariant-loop-op : goal.invariant-loop-op
invariant-loop-op l = add_keys (map (λ k. k.now) l.keys.keys)
    (flat_map touched_by (drop l.op-index l.ops))
    ≡ add_keys (map (λ k. k.now) l.initial.keys.keys) (flat_map touched_by l.ops)

use Rattle.std.proofs.Common.{◌≡◌, map, flat_map, drop}
use Rattle.epx_types.proofs.Common.{add_keys, touched_by}
use Rattle.epx_neighbours.specs.inner.KeyNumbers.{keys_in}
use Rattle.epx_neighbours.proofs.key_numbers.gather_keys.Given as goal

abbrev pub invariant-loop-command : goal.invariant-loop-command
invariant-loop-command l = add_keys (map (λ k. k.now) l.keys.keys)
    (flat_map (flat_map touched_by) (map (λ c. c.ops.now) (drop l.command-index l.commands)))
    ≡ keys_in (map (λ c. c.ops.now) l.commands)

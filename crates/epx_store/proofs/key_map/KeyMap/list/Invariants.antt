use Rattle.std.proofs.Common.{◌≡◌, map, ◌++◌}
use Rattle.epx_store.proofs.key_map.KeyMap.list.Given as goal

abbrev pub invariant-loop-key : goal.invariant-loop-key
invariant-loop-key g l = map (λ p. (p.0.now, p.1)) l.pairs.items ++ l.key-iterator
    ≡ l.initial.key-iterator

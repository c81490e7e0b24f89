use Rattle.std.proofs.Common.{◌≡◌, ◌++◌}
use Rattle.epx_store.proofs.key_map.KeyMap.into_pairs.Given as goal

abbrev pub invariant-loop-key : goal.invariant-loop-key
invariant-loop-key g l = l.pairs.items ++ l.key-iterator ≡ l.initial.key-iterator

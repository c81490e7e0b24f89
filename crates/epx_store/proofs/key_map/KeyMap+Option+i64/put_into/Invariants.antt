use Rattle.std.proofs.Common.{◌≡◌}
use Rattle.epx_types.proofs.Common.{apply_writes}
use Rattle.epx_store.proofs.key_map.KeyMap+Option+i64.put_into.Given as goal

abbrev pub invariant-loop-key : goal.invariant-loop-key
invariant-loop-key l = apply_writes l.key-iterator l.store
    ≡ apply_writes l.initial.key-iterator l.initial.store

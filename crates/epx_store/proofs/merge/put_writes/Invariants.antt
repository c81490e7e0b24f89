use Rattle.std.proofs.Common.{◌≡◌, drop}
use Rattle.epx_types.proofs.Common.{apply_writes}
use Rattle.epx_store.proofs.merge.put_writes.Given as goal

abbrev pub invariant-loop-key : goal.invariant-loop-key
invariant-loop-key l = apply_writes (drop l.key-index l.key-items) l.store
    ≡ apply_writes l.key-items l.initial.store

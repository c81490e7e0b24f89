use Rattle.std.proofs.Common.{◌≡◌, map, drop}
use Rattle.epx_types.proofs.Common.{apply_writes}
use Rattle.epx_store.proofs.few_writes.FewWrites.put_into.Given as goal

abbrev pub invariant-loop-key : goal.invariant-loop-key
invariant-loop-key l = apply_writes (map (λ p. (p.0.now, p.1)) (drop l.key-index l.key-items))
    l.store ≡ apply_writes (map (λ p. (p.0.now, p.1)) l.key-items) l.initial.store

use Rattle.std.proofs.Common.{◌≡◌, map, take}
use Rattle.epx_store.proofs.few_writes.FewWrites.pairs.Given as goal

abbrev pub invariant-loop-key : goal.invariant-loop-key
invariant-loop-key l = l.pairs.items ≡ map (λ p. (p.0.now, p.1)) (take l.key-index l.key-items)

use Rattle.std.proofs.Common.{map}
use Rattle.epx_store.proofs.KeySlotLemmas.{AreLowerBefore}
use Rattle.epx_store.proofs.few_writes.slot_of.Given as goal

abbrev pub invariant-loop-index : goal.invariant-loop-index
invariant-loop-index l = AreLowerBefore (map (λ p. (p.0.now, p.1)) l.writes) l.key l.index

use Rattle.std.proofs.Common.{◌≡◌, drop}
use Rattle.epx_types.proofs.Common.{apply_writes}
use Rattle.epx_store.proofs.MergeLemmas.{writes_in}
use Rattle.epx_store.proofs.merge.put_effects.Given as goal

abbrev pub invariant-loop-effect : goal.invariant-loop-effect
invariant-loop-effect l = apply_writes (writes_in (drop l.effect-index l.effects)) l.store
    ≡ apply_writes (writes_in l.effects) l.initial.store

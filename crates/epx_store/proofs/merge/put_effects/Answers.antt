use Rattle.std.proofs.Common.{◌<◌, length, arith}
use Rattle.epx_store.proofs.MergeLemmas.{apply_writes-effect}
use Rattle.epx_store.proofs.merge.put_effects.Goals as goal

pub loop-effect-preserved : goal.loop-effect-preserved
loop-effect-preserved c =
    let within : c.loop-effect.effect-index < length c.args.effects.now = omega arith in
    apply_writes-effect c.args.effects.now c.loop-effect.effect-index c.effect-item.result
    c.loop-effect.store c.put_writes.new.store _ within c.effect-item.is
    c.in_ok-put_writes.ensures c.loop-effect.invariant

use Rattle.epx_store.proofs.MergeLemmas.{HasDistinctKeys-one_effect}
use Rattle.epx_calls.proofs.effects.after.Goals as goal

pub merge_effects-requires-after_bounds : goal.merge_effects-requires-after_bounds
merge_effects-requires-after_bounds g c κs within =
    HasDistinctKeys-one_effect c.args.ops.now c.args.store c.from_ref.result.now
    c.in_ok-effect.effect
    c.from_ref.ensures.value c.in_ok-effect.ensures.writes

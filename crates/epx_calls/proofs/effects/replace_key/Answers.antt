use Rattle.std.proofs.Common.{rules}
use Rattle.epx_calls.proofs.WriteLemmas.{HasDistinctKeys-pair}
use Rattle.epx_calls.proofs.effects.replace_key.Goals as goal

pub merge_effects-requires-after_bounds : goal.merge_effects-requires-after_bounds
merge_effects-requires-after_bounds g c κs within =
    HasDistinctKeys-pair c.in_ok-one_write.field-0.writes c.in_ok-one_write-2.field-0.writes
    c.args.removed
    c.args.put _ _ c.in_ok-one_write.ensures c.in_ok-one_write-2.ensures (search rules)

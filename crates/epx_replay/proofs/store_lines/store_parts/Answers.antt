use Rattle.std.proofs.Common.{◌∙◌, ap, map, rules}
use Rattle.epx_replay.proofs.PairRangeLemmas.{length-pairs_within}
use Rattle.epx_replay.proofs.store_lines.store_parts.Goals as goal

pub pair_parts-requires : goal.pair_parts-requires
pair_parts-requires g c = (
  search rules,
  length-pairs_within (λ p. (p.0.now, p.1)) c.deref.result.now c.args.store.now _
      (ap (map (λ p. (p.0.now, p.1))) c.deref.ensures.value ∙ c.in_ok-pairs.ensures) c.requires,
)

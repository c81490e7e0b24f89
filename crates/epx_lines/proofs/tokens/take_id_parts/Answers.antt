use Rattle.std.proofs.Common.{[], ◌∷◌, refl}
use Rattle.epx_lines.proofs.TokenValueLemmas.{id_of_pair-scalars}
use Rattle.epx_lines.proofs.tokens.take_id_parts.Goals as goal

pub returns : goal.returns
returns c =
    let r = c.in_ok-replica.ensures in
    let i = c.in_ok-number.ensures in
    (r.0 ∷ i.0 ∷ [], (_, r.1, (_, i.1, refl)), id_of_pair-scalars r.0 i.0 _ _ r.2 i.2)

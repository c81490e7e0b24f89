use Rattle.std.proofs.Common.{◌≡◌, ◌∙◌, map, flat_map, refl, ap, rules}
use Rattle.std.proofs.lemmas.Grind.{flat_map-append}
use Rattle.epx_types.proofs.Common.{map-append, IfOk-weaker}
use Rattle.epx_claims.specs.inner.PieceItems.{items_of_piece}
use Rattle.epx_claims.proofs.JoinedPieceLemmas.{flat_map-parts}
use Rattle.epx_report.specs.ReportLines.{store_line}
use Rattle.epx_replay.proofs.store_lines.pair_parts.Goals as goal

pub returns : goal.returns
returns g c =
    let cut = c.args.plan.cut in
    let pairs = c.args.pairs.now in
    let count = c.pieces-pieces.ensures.pieces in
    IfOk-weaker c.claimed_map.result _ _ (λ parts done.
    flat_map-parts cut c.pieces-pieces.ensures.fits.some_item
    (λ xs. flat_map store_line (map (λ p. (p.0.now, p.1)) xs)) refl
    (λ xs ys. ap (flat_map store_line) (map-append (λ p. (p.0.now, p.1)) xs ys)
    ∙ flat_map-append store_line (map (λ p. (p.0.now, p.1)) xs)
    (map (λ p. (p.0.now, p.1)) ys)) pairs (λ part. part.items) parts.items
    (done.len ∙ count)
    (λ i inside.
    let part = done.each i (rw count inside) in
    let answer = part.2 in
    let is : part.0.items ≡ flat_map store_line
    (map (λ p. (p.0.now, p.1)) (items_of_piece cut pairs i)) = search rules in
    (part.0, part.1, is))) c.claimed_map.ensures.ok

use Rattle.std.proofs.Common.{◌≡◌, ◌∙◌, flat_map, refl, ap, rules}
use Rattle.std.proofs.lemmas.Grind.{flat_map-append}
use Rattle.epx_types.proofs.Common.{IfOk-weaker, piece_count}
use Rattle.epx_claims.specs.inner.PieceItems.{items_of_piece}
use Rattle.epx_claims.proofs.JoinedPieceLemmas.{flat_map-parts}
use Rattle.epx_picture.specs.PictureText.{arrow_lines}
use Rattle.epx_picture.proofs.picture_parts.arrow_parts.Goals as goal

pub returns : goal.returns
returns g c =
    let cut = c.args.plan.cut in
    let items = c.args.merged.now in
    let count = c.pieces-pieces.ensures.pieces ∙ ap (piece_count cut) c.len.ensures.len in
    IfOk-weaker c.claimed_map.result _ _ (λ parts done.
    flat_map-parts cut c.pieces-pieces.ensures.fits.some_item (flat_map arrow_lines) refl
    (flat_map-append arrow_lines) items (λ part. part.items) parts.items
    (done.len ∙ count)
    (λ i inside.
    let part = done.each i (rw count inside) in
    let answer = part.2 in
    let is : part.0.items ≡ flat_map arrow_lines (items_of_piece cut items i) = search rules in
    (part.0, part.1, is))) c.claimed_map.ensures.ok

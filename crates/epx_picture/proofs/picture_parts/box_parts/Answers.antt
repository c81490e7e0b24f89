use Rattle.std.proofs.Common.{◌≡◌, ◌∙◌, flat_map, refl, rules}
use Rattle.std.proofs.lemmas.Grind.{flat_map-append}
use Rattle.epx_types.proofs.Common.{IfOk-weaker}
use Rattle.epx_claims.specs.inner.PieceItems.{items_of_piece}
use Rattle.epx_claims.proofs.JoinedPieceLemmas.{flat_map-parts}
use Rattle.epx_picture.specs.PictureText.{box_line}
use Rattle.epx_picture.proofs.picture_parts.box_parts.Goals as goal

pub returns : goal.returns
returns g c =
    let cut = c.args.plan.cut in
    let items = c.args.node_boxes.now in
    let count = c.pieces-pieces.ensures.pieces in
    IfOk-weaker c.claimed_map.result _ _ (λ parts done.
    flat_map-parts cut c.pieces-pieces.ensures.fits.some_item (flat_map box_line) refl
    (flat_map-append box_line) items (λ part. part.items) parts.items
    (done.len ∙ count)
    (λ i inside.
    let part = done.each i (rw count inside) in
    let answer = part.2 in
    let is : part.0.items ≡ flat_map box_line (items_of_piece cut items i) = search rules in
    (part.0, part.1, is))) c.claimed_map.ensures.ok

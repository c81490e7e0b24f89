use Rattle.std.proofs.Common.{◌≡◌, ◌∙◌, Some, map, refl, ap, rules}
use Rattle.epx_claims.specs.inner.PieceItems.{items_of_piece}
use Rattle.epx_claims.proofs.JoinedPieceLemmas.{flat_map-parts}
use Rattle.epx_linear.proofs.HistoryPartLemmas.{map-flat_map, calls_behind}
use Rattle.epx_linear.proofs.HistoryPartLemmas.{calls_behind-append}
use Rattle.epx_linear.proofs.history_parts.read_pieces.Goals as goal

pub returns : goal.returns
returns g c =
    let lines = c.args.lines.now in
    let cut = c.args.plan.cut in
    let done = c.in_ok-parts.ensures.ok in
    let count = c.pieces-pieces.ensures.pieces in
    ap (map Some) c.in_ok-join.ensures
    ∙ map-flat_map Some (λ part. part.items) c.in_ok-parts.parts.items
    ∙ flat_map-parts cut c.pieces-pieces.ensures.fits.some_item calls_behind refl
    calls_behind-append lines (λ part. map Some part.items) c.in_ok-parts.parts.items
    (done.len ∙ count)
    (λ i inside.
    let part = done.each i (rw count inside) in
    let answer = part.2 in
    let is : map Some part.0.items ≡ calls_behind (items_of_piece cut lines i) = search rules in
    (part.0, part.1, is))

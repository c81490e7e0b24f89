use Rattle.std.proofs.Common.{◌≡◌, ◌∙◌, zip, flat_map, refl, sym, ap, rules}
use Rattle.std.proofs.lemmas.Grind.{flat_map-append}
use Rattle.epx_types.proofs.Common.{IfOk-weaker, piece_count}
use Rattle.epx_claims.specs.inner.PieceItems.{items_of_piece}
use Rattle.epx_claims.proofs.JoinedPieceLemmas.{flat_map-parts}
use Rattle.epx_report.specs.ReportLines.{reply_line}
use Rattle.epx_replay.proofs.PairRangeLemmas.{length-zip_same}
use Rattle.epx_replay.proofs.reply_parts.reply_parts.Goals as goal

pub returns : goal.returns
returns g c =
    let cut = c.args.plan.cut in
    let pairs = zip c.args.ids.now c.args.replies.now in
    let many = length-zip_same c.args.ids.now c.args.replies.now c.requires.same in
    let count = c.pieces-pieces.ensures.pieces ∙ ap (piece_count cut) (sym many) in
    IfOk-weaker c.claimed_map.result _ _ (λ parts done.
    flat_map-parts cut c.pieces-pieces.ensures.fits.some_item (flat_map reply_line) refl
    (flat_map-append reply_line) pairs (λ part. part.items) parts.items
    (done.len ∙ count)
    (λ i inside.
    let part = done.each i (rw count inside) in
    let answer = part.2 in
    let is : part.0.items ≡ flat_map reply_line (items_of_piece cut pairs i) = search rules in
    (part.0, part.1, is))) c.claimed_map.ensures.ok

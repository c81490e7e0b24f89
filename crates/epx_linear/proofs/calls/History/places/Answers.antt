use Rattle.std.proofs.Common.{◌≡◌, ◌++◌, ◌∙◌, flat_map, length, option_and_then, slice_get, refl}
use Rattle.std.proofs.Common.{ap, sym, rules}
use Rattle.epx_types.proofs.Common.{length-map, map-append}
use Rattle.epx_claims.specs.inner.PieceItems.{items_of_piece}
use Rattle.epx_claims.proofs.JoinedPieceLemmas.{flat_map-parts}
use Rattle.epx_linear.specs.ClientCalls.{call_of, calls_at, calls_in}
use Rattle.epx_linear.proofs.HistoryPartLemmas.{map-flat_map}
use Rattle.epx_linear.proofs.calls.History.places.Goals as goal

pub returns-clause-calls : goal.returns-clause-calls
returns-clause-calls g c =
    let h = c.args.self.now in
    let ids = c.args.ids.now in
    let cut = c.args.plan.cut in
    let done = c.in_ok-parts.ensures.ok in
    let count = c.pieces-pieces.ensures.pieces in
    let joined = c.in_ok-append_parts.ensures
    ∙ ap (λ front. front ++ flat_map (λ part. part.items) c.in_ok-parts.parts.items)
    c.in_ok-places.ensures.items in
    ap (calls_at h) joined
    ∙ map-flat_map (option_and_then (slice_get h)) (λ part. part.items) c.in_ok-parts.parts.items
    ∙ flat_map-parts cut c.pieces-pieces.ensures.fits.some_item (calls_in h) refl
    (map-append (call_of h)) ids (λ part. calls_at h part.items) c.in_ok-parts.parts.items
    (done.len ∙ count)
    (λ i inside.
    let part = done.each i (rw count inside) in
    let answer = part.2 in
    let is : calls_at h part.0.items ≡ calls_in h (items_of_piece cut ids i) = search rules in
    (part.0, part.1, is))

pub returns-clause-len : goal.returns-clause-len
returns-clause-len g c =
    let h = c.args.self.now in
    sym (length-map c.append_parts.new.items.items (option_and_then (slice_get h)))
    ∙ ap length (returns-clause-calls g c) ∙ length-map c.args.ids.now (call_of h)

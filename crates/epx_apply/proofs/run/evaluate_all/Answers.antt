use Rattle.std.proofs.Common.{◌≡◌, ◌∙◌, ◌++◌, map, flat_map, refl, sym, ap, rules}
use Rattle.epx_types.proofs.Common.{map-append, commands_at}
use Rattle.epx_claims.specs.inner.PieceItems.{items_of_piece}
use Rattle.epx_claims.proofs.JoinedPieceLemmas.{flat_map-parts}
use Rattle.epx_apply.specs.inner.Effects.{op_lists_of, effects_over}
use Rattle.epx_apply.proofs.LevelEffectLemmas.{effect_at, effects_over-each}
use Rattle.epx_apply.proofs.run.evaluate_all.Goals as goal

pub returns : goal.returns
returns g c =
    let ops = op_lists_of c.args.commands.now in
    let store = c.args.store.now in
    let positions = c.args.positions.now in
    let cut = c.args.plan.cut in
    let done = c.in_ok-parts.ensures.ok in
    c.in_ok-append_parts.ensures
    ∙ ap (λ front. front ++ flat_map (λ part. part.items) c.in_ok-parts.parts.items)
    c.in_ok-effects.ensures.items
    ∙ flat_map-parts cut c.pieces-pieces.ensures.fits.some_item (map (effect_at store ops)) refl
    (map-append (effect_at store ops)) positions (λ part. part.items) c.in_ok-parts.parts.items
    (done.len ∙ c.pieces-pieces.ensures.pieces)
    (λ i inside.
    let part = done.each i (rw c.pieces-pieces.ensures.pieces inside) in
    let answer = part.2 in
    let is : part.0.items ≡ effects_over store (commands_at ops (items_of_piece cut positions i)) =
    search rules in
    (part.0, part.1, is ∙ effects_over-each store ops (items_of_piece cut positions i)))
    ∙ sym (effects_over-each store ops positions)

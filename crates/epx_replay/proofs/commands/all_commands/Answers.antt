use Rattle.std.proofs.Common.{◌≡◌, ◌++◌, ◌∙◌, map, flat_map, refl, ap, rules}
use Rattle.epx_types.proofs.Common.{map-append, instance_of, ops_or_empty, commands_in}
use Rattle.epx_types.specs.declared.command.Command.{Command}
use Rattle.epx_claims.specs.inner.PieceItems.{items_of_piece}
use Rattle.epx_claims.proofs.JoinedPieceLemmas.{flat_map-parts}
use Rattle.epx_replay.proofs.ReplayLemmas.{map-flat_map}
use Rattle.epx_replay.proofs.commands.all_commands.Goals as goal

pub returns : goal.returns
returns g c =
    let m = c.args.merged.now in
    let ids = c.args.ids.now in
    let cut = c.args.plan.cut in
    let done = c.in_ok-parts.ensures.ok in
    let count = c.pieces-pieces.ensures.pieces in
    let joined = c.in_ok-append_parts.ensures
    ∙ ap (λ front. front ++ flat_map (λ part. part.items) c.in_ok-parts.parts.items)
    c.in_ok-all.ensures.items in
    ap (map (λ (c : Command). c.ops.now)) joined
    ∙ map-flat_map (λ (c : Command). c.ops.now) (λ part. part.items) c.in_ok-parts.parts.items
    ∙ flat_map-parts cut c.pieces-pieces.ensures.fits.some_item (commands_in m) refl
    (map-append (λ x. ops_or_empty (instance_of m x))) ids
    (λ part. map (λ (c : Command). c.ops.now) part.items) c.in_ok-parts.parts.items
    (done.len ∙ count)
    (λ i inside.
    let part = done.each i (rw count inside) in
    let answer = part.2 in
    let is : map (λ (c : Command). c.ops.now) part.0.items
    ≡ commands_in m (items_of_piece cut ids i) = search rules in
    (part.0, part.1, is))

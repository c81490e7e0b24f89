use Rattle.std.proofs.Common.{◌≡◌, ◌++◌, Bool, map, slice_get, Some, string_bytes, sym, ap}
use Rattle.std.proofs.Common.{◌∙◌}
use Rattle.epx_types.proofs.Common.{on_ok_weaker, Contains-slice_get, Instance}
use Rattle.epx_types.specs.declared.id.Id.{Id}
use Rattle.epx_picture.specs.PictureText.{arrow_lines}
use Rattle.epx_picture.specs.PicturesAround.{with_deps_near}
use Rattle.epx_picture.proofs.NeighbourhoodLemmas.{All-deps_have_nodes}
use Rattle.epx_picture.proofs.MarkedEdgeLemmas.{All-edges_within, with_deps_near-marked}
use Rattle.epx_picture.proofs.picture_writer.write_arrows_from.Goals as goal

pub are_marked-requires : goal.are_marked-requires
are_marked-requires c =
    All-edges_within c.args.graph.now c.edges.ensures.fits c.args.position c.args.marks.now
    c.edges.result.now c.edges.ensures.edges c.requires.marks

pub write_marked_arrows-requires-clause-deps : goal.write_marked_arrows-requires-clause-deps
write_marked_arrows-requires-clause-deps c =
    let m = c.args.merged.now in
    let e = c.entry_at-entry.result.now in
    All-deps_have_nodes m c.args.graph.now c.requires.graph e
    (Contains-slice_get m c.args.position e c.entry_at-entry.ensures)

pub returns-then-are_marked : goal.returns-then-are_marked
returns-then-are_marked c =
    let m = c.args.merged.now in
    let g = c.args.graph.now in
    let k = c.args.position in
    let entry = c.entry_at-entry.result.now in
    let before = string_bytes c.args.text.now in
    let after = string_bytes c.write_arrows.new.text in
    on_ok_weaker {P = after ≡ before ++ arrow_lines entry}
    {Q = (near : Id → Bool) (e : Instance) → c.args.marks.now ≡ map near g.ids
    → slice_get m k ≡ Some e → after ≡ before ++ arrow_lines (with_deps_near near e)}
    c.write_arrows.result
    (λ written near e same at.
    let one : Some entry ≡ Some e = sym c.entry_at-entry.ensures ∙ at in
    let is : entry ≡ e = cc one in
    written ∙ ap (λ i. before ++ arrow_lines i)
    (is ∙ sym (with_deps_near-marked m g c.requires.graph near
    c.args.marks.now same k e at c.edges.result.now c.edges.ensures.edges
    (c.are_marked.ensures c.if-are_marked.true))))
    c.write_arrows.ensures

pub returns : goal.returns
returns c =
    let m = c.args.merged.now in
    let g = c.args.graph.now in
    let k = c.args.position in
    let entry = c.entry_at-entry.result.now in
    let before = string_bytes c.args.text.now in
    let after = string_bytes c.write_marked_arrows.new.text in
    on_ok_weaker {P = (near : Id → Bool) → c.args.marks.now ≡ map near g.ids
    → after ≡ before ++ arrow_lines (with_deps_near near entry)}
    {Q = (near : Id → Bool) (e : Instance) → c.args.marks.now ≡ map near g.ids
    → slice_get m k ≡ Some e → after ≡ before ++ arrow_lines (with_deps_near near e)}
    c.write_marked_arrows.result
    (λ written near e same at.
    let one : Some entry ≡ Some e = sym c.entry_at-entry.ensures ∙ at in
    let is : entry ≡ e = cc one in
    written near same ∙ ap (λ i. before ++ arrow_lines (with_deps_near near i)) is)
    c.write_marked_arrows.ensures

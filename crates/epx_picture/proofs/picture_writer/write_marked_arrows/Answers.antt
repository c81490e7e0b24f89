use Rattle.std.proofs.Common.{◌≡◌, ◌+◌, ◌++◌, List, All, Contains, filter, flat_map, get_or, take}
use Rattle.std.proofs.Common.{slice_get, Some, string_bytes, sym, ap, ◌∙◌, subst}
use Rattle.epx_types.proofs.Common.{All-get_or, slice_get-get_or}
use Rattle.epx_types.specs.declared.id.Id.{Id}
use Rattle.epx_picture.specs.PictureText.{arrow_line}
use Rattle.epx_picture.proofs.PartLemmas.{filter-more_no, flat_map-lines_more, append-written}
use Rattle.epx_picture.proofs.picture_writer.write_marked_arrows.Goals as goal
use Rattle.epx_picture.proofs.picture_writer.write_marked_arrows.Goals.{then-is_marked+in_ok-write_arrow}
use Rattle.epx_picture.proofs.picture_writer.write_marked_arrows.Goals.{else-is_marked}

pub loop-dependency-preserved : goal.loop-dependency-preserved
loop-dependency-preserved c near is =
    let none : Id = record { replica = 0; number = 0 } in
    let deps = c.deps-dependency-items.result.now in
    let i = c.loop-dependency.dependency-index in
    let x = get_or deps i none in
    let at : slice_get deps i ≡ Some x = slice_get-get_or deps i none c.loop-dependency-test.true in
    let there : Contains c.args.graph.now.ids x =
    All-get_or (Contains c.args.graph.now.ids) deps i none c.loop-dependency-test.true
    (subst (λ (ids : List Id). All (Contains c.args.graph.now.ids) ids)
    (sym c.deps-dependency-items.ensures.deps) c.requires.deps) in
    let says : c.is_marked.result ≡ near x = c.is_marked.ensures near is there in
    let line = arrow_line c.id-id.result in
    let before = string_bytes c.args.text.now in
    let was = c.loop-dependency.invariant near is in
    elim c.if-is_marked.branch [
      | then-is_marked+in_ok-write_arrow w ↦
          append-written (string_bytes c.if-is_marked.text) (string_bytes c.loop-dependency.text)
          before (flat_map line (filter near (take i deps))) (line x)
          (flat_map line (filter near (take (i + 1) deps)))
          (ap string_bytes w.text-is ∙ w.in_ok-write_arrow.ensures) was
          (flat_map-lines_more line near deps i x at (sym says ∙ w.if-is_marked.true))
      | else-is_marked w ↦
          ap string_bytes w.text-is ∙ was ∙ ap (λ ids. before ++ flat_map line ids)
          (sym (filter-more_no near deps i x at (sym says ∙ w.if-is_marked.false)))
    ]

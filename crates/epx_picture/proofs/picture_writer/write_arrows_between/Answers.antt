use Rattle.std.proofs.Common.{◌≡◌, ◌+◌, ◌++◌, false, flat_map, get_or, take}
use Rattle.std.proofs.Common.{string_bytes, sym, ap, ◌∙◌, arith}
use Rattle.epx_picture.specs.PictureText.{arrow_lines}
use Rattle.epx_picture.specs.PicturesAround.{part_near, with_deps_near}
use Rattle.epx_picture.proofs.NodeBoxLemmas.{slice_get-own_node}
use Rattle.epx_picture.proofs.PartLemmas.{flat_map-arrows_more, slice_get-exists, append-written}
use Rattle.epx_picture.proofs.PartLemmas.{get_or-mark}
use Rattle.epx_picture.proofs.PartLemmas.{part_near-same}
use Rattle.epx_picture.proofs.picture_writer.write_arrows_between.Goals as goal
use Rattle.epx_picture.proofs.picture_writer.write_arrows_between.Goals.{then-marks-position+in_ok-write_arrows_from}
use Rattle.epx_picture.proofs.picture_writer.write_arrows_between.Goals.{else-marks-position}

pub loop-position-preserved : goal.loop-position-preserved
loop-position-preserved c near is =
    let m = c.args.merged.now in
    let g = c.args.graph.now in
    let n = c.loop-position.position in
    let marks = c.args.marks.now in
    let e = slice_get-exists m n
    (omega (arith, c.loop-position-test.true, c.len-position-end.ensures.len)) in
    let mark : get_or marks n false ≡ near e.0.id =
    get_or-mark near g.ids marks is n e.0.id (slice_get-own_node m g c.requires.graph n e.0 e.1) in
    let before = string_bytes c.args.text.now in
    let was = c.loop-position.invariant near is in
    elim c.if-marks-position.branch [
      | then-marks-position+in_ok-write_arrows_from w ↦
          append-written (string_bytes c.if-marks-position.text)
          (string_bytes c.loop-position.text) before
          (flat_map arrow_lines (part_near near (take n m)))
          (arrow_lines (with_deps_near near e.0))
          (flat_map arrow_lines (part_near near (take (n + 1) m)))
          (ap string_bytes w.text-is ∙ w.in_ok-write_arrows_from.ensures near e.0 is e.1) was
          (flat_map-arrows_more near m n e.0 e.1 (sym mark ∙ w.if-marks-position.true))
      | else-marks-position w ↦
          ap string_bytes w.text-is ∙ was ∙ ap (λ es. before ++ flat_map arrow_lines es)
          (sym (part_near-same near m n e.0 e.1 (sym mark ∙ w.if-marks-position.false)))
    ]

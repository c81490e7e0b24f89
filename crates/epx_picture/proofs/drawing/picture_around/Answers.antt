use Rattle.std.proofs.Common.{◌≡◌, Bool, map, filter, take, drop, length, sym, ap, ap₂, ◌∙◌}
use Rattle.std.proofs.Common.{arith}
use Rattle.epx_types.proofs.Common.{IfOk-weaker, length-map, length-drop}
use Rattle.epx_types.specs.declared.id.Id.{Id}
use Rattle.epx_graph.proofs.Common.{missing_ids}
use Rattle.epx_picture.specs.declared.node_box.NodeBox.{NodeBox}
use Rattle.epx_picture.specs.PictureText.{picture_text}
use Rattle.epx_picture.specs.PicturesAround.{IsPictureAround, part_near}
use Rattle.epx_picture.proofs.PictureAroundLemmas.{take-committed_marks, drop-missing_marks}
use Rattle.epx_picture.proofs.PictureAroundLemmas.{IsPictureAround-from_marked}
use Rattle.epx_picture.proofs.WithinLemmas.{IsWithinTest-exists}
use Rattle.epx_picture.proofs.drawing.picture_around.Goals as goal

pub split_at-requires : goal.split_at-requires
split_at-requires c =
    let g = c.args.graph.now in
    let test = IsWithinTest-exists c.args.merged.now c.args.steps c.args.id in
    let same = c.in_ok-marks.ensures c.args.merged.now test.0 c.requires test.1 in
    omega (
      arith,
      c.committed_len.ensures,
      ap length c.deref.ensures.value,
      ap length same,
      length-map g.ids test.0,
      c.requires.graph.committed_nodes,
    )

pub marked_items-requires-2 : goal.marked_items-requires-2
marked_items-requires-2 c =
    let g = c.args.graph.now in
    let test = IsWithinTest-exists c.args.merged.now c.args.steps c.args.id in
    let same = c.in_ok-marks.ensures c.args.merged.now test.0 c.requires test.1 in
    omega (
      arith,
      c.split_at.ensures.back_len,
      c.committed_len.ensures,
      ap length c.deref.ensures.value,
      ap length same,
      length-map g.ids test.0,
      ap length c.missing.ensures,
      length-drop g.committed g.ids,
    )

pub write_marked-requires-clause-marks : goal.write_marked-requires-clause-marks
write_marked-requires-clause-marks c =
    let g = c.args.graph.now in
    let test = IsWithinTest-exists c.args.merged.now c.args.steps c.args.id in
    let same = c.in_ok-marks.ensures c.args.merged.now test.0 c.requires test.1 in
    ap length c.deref-3.ensures.value ∙ ap length same ∙ length-map g.ids test.0

pub returns : goal.returns
returns c =
    let m = c.args.merged.now in
    let g = c.args.graph.now in
    let n = c.args.steps in
    let x = c.args.id in
    let test = IsWithinTest-exists m n x in
    let near : Id → Bool = test.0 in
    let marks = c.in_ok-marks.marks.items in
    let same : marks ≡ map near g.ids = c.in_ok-marks.ensures m near c.requires test.1 in
    let all = c.in_ok-all_boxes.field-0.items in
    let named = c.in_ok-all_boxes.ensures.named in
    let front : c.split_at.result.0.now ≡ take g.committed marks =
    c.split_at.ensures.front ∙ ap₂ take c.committed_len.ensures c.deref.ensures.value in
    let back : c.split_at.result.1.now ≡ drop g.committed marks =
    c.split_at.ensures.back ∙ ap₂ drop c.committed_len.ensures c.deref.ensures.value in
    let node_boxes : c.in_ok-node_boxes.node_boxes.items ≡ filter (λ d. near d.id) all =
    c.in_ok-node_boxes.ensures (λ d. near d.id)
    (front ∙ take-committed_marks m g c.requires near marks same all named
    ∙ ap (map (λ (d : NodeBox). near d.id)) (sym c.deref-2.ensures.value))
    ∙ ap (filter (λ (d : NodeBox). near d.id)) c.deref-2.ensures.value in
    let missing : c.in_ok-missing_ids.missing_ids.items ≡ filter near (missing_ids g) =
    c.in_ok-missing_ids.ensures near
    (back ∙ drop-missing_marks m g c.requires near marks same
    ∙ ap (map near) (sym c.missing.ensures))
    ∙ ap (filter near) c.missing.ensures in
    IfOk-weaker c.write_marked.result
    (λ text. (near : Id → Bool) → c.deref-3.result.now ≡ map near g.ids
    → text.items ≡ picture_text (part_near near m) c.deref-4.result.now c.deref-5.result.now)
    (λ text. IsPictureAround m x n text.items)
    (λ text writes. IsPictureAround-from_marked m g c.requires x n near test.1 all
    c.deref-4.result.now
    c.deref-5.result.now text.items named c.in_ok-all_boxes.ensures.shown
    (c.deref-4.ensures.value ∙ node_boxes) (c.deref-5.ensures.value ∙ missing)
    (writes near (c.deref-3.ensures.value ∙ same)))
    c.write_marked.ensures

use Rattle.std.proofs.Common.{◌≡◌, ◌<◌, [], ◌∷◌, ◌++◌, length, slice_get, Some, sym, ap, ◌∙◌, arith}
use Rattle.epx_types.proofs.Common.{slice_get-get_or}
use Rattle.epx_picture.proofs.PartLemmas.{slice_get-exists, filter-more_no, filter-more_yes}
use Rattle.epx_picture.proofs.PartLemmas.{get_or-mark}
use Rattle.epx_picture.proofs.marked.marked_items.Goals as goal
use Rattle.epx_picture.proofs.marked.marked_items.Goals.{then-mark+in_ok-push, else-mark}

pub loop-index-preserved : goal.loop-index-preserved
loop-index-preserved g c test same =
    let items = c.args.items.now in
    let marks = c.args.marks.now in
    let i = c.loop-index.index in
    let was = c.loop-index.invariant test same in
    let within : i < length items =
    omega (arith, c.loop-index-test.true, c.loop-index.auto.index-end, c.requires) in
    elim c.if-mark.branch [
      | then-mark+in_ok-push w ↦
          let x = w.index-items-index.result in
          let at : slice_get items i ≡ Some x =
          slice_get-get_or items i x within ∙ ap Some (sym w.index-items-index.is) in
          ap (λ v. v.items) w.kept-is ∙ w.in_ok-push.ensures.items ∙ ap (λ ys. ys ++ x ∷ []) was
          ∙ sym (filter-more_yes test items i x at
          (sym (get_or-mark test items marks same i x at) ∙ w.if-mark.true))
      | else-mark w ↦
          let x = slice_get-exists items i within in
          ap (λ v. v.items) w.kept-is ∙ was
          ∙ sym (filter-more_no test items i x.0 x.1
          (sym (get_or-mark test items marks same i x.0 x.1) ∙ w.if-mark.false))
    ]

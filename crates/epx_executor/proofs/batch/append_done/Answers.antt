use Rattle.std.proofs.Common.{◌∷◌, [], ◌++◌, List, sym, ap, ◌∙◌, take, filter, get_or}
use Rattle.epx_types.proofs.Common.{append_assoc, is_among}
use Rattle.epx_types.specs.declared.id.Id.{Id}
use Rattle.epx_executor.proofs.FilterLemmas.{filter-kept, filter-skipped}
use Rattle.epx_executor.proofs.RemainderLemmas.{not-is_false, not-is_true}
use Rattle.epx_executor.proofs.batch.append_done.Goals as goal
use Rattle.epx_executor.proofs.batch.append_done.Goals.{then-not-is_left+in_ok-push}
use Rattle.epx_executor.proofs.batch.append_done.Goals.{else-not-is_left}

pub loop-id-preserved : goal.loop-id-preserved
loop-id-preserved c =
    let p = λ (x : Id). is_among c.args.done.now x in
    let ids = c.args.ids.now in
    let k = c.loop-id.id-index in
    let none : Id = record { replica = 0; number = 0 } in
    let before = c.args.found.now.items in
    elim c.if-not-is_left.branch [
      | then-not-is_left+in_ok-push w ↦
          ap (λ v. v.items) w.found-is ∙ w.in_ok-push.ensures.items
          ∙ ap (λ (ys : List Id). ys ++ get_or ids k none ∷ []) c.loop-id.invariant
          ∙ append_assoc before (filter p (take k ids)) (get_or ids k none ∷ [])
          ∙ ap (λ (ys : List Id). before ++ ys) (sym (filter-kept p ids k none c.loop-id-test.true
          (not-is_false c.is_left.result (p (get_or ids k none)) c.is_left.ensures
          w.if-not-is_left.true)))
      | else-not-is_left w ↦
          ap (λ v. v.items) w.found-is ∙ c.loop-id.invariant
          ∙ ap (λ (ys : List Id). before ++ ys) (sym (filter-skipped p ids k none
          c.loop-id-test.true
          (not-is_true c.is_left.result (p (get_or ids k none)) c.is_left.ensures
          w.if-not-is_left.false)))
    ]

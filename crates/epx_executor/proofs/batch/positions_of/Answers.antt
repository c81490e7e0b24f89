use Rattle.std.proofs.Common.{◌≡◌, ◌∷◌, [], ◌++◌, ℕ, List, map, take, get_or, slice_get, unwrap_or}
use Rattle.std.proofs.Common.{sym, ap, ap₂, ◌∙◌}
use Rattle.epx_types.proofs.Common.{map-append, take_more, instance_of, ops_or_empty}
use Rattle.epx_types.specs.declared.id.Id.{Id}
use Rattle.epx_types.specs.declared.op.Op.{Op}
use Rattle.epx_executor.proofs.FoundOpsLemmas.{ops_or_empty-position}
use Rattle.epx_executor.proofs.batch.positions_of.Goals as goal

pub loop-id-preserved : goal.loop-id-preserved
loop-id-preserved c =
    let m = c.args.merged.now in
    let ids = c.args.ids.now in
    let k = c.loop-id.id-index in
    let none : Id = record { replica = 0; number = 0 } in
    let x = get_or ids k none in
    let i = c.unwrap_or-position.result in
    let at = λ (p : Id × ℕ). ops_or_empty (slice_get m p.1) in
    let of = λ (y : Id). ops_or_empty (instance_of m y) in
    let here : at (x, i) ≡ of x =
    ap (λ j. ops_or_empty (slice_get m j)) (c.unwrap_or-position.ensures
    ∙ ap (unwrap_or c.position.result) c.len.ensures.len)
    ∙ ops_or_empty-position m c.len.ensures.rising x c.position.result c.position.ensures in
    ap (map at) c.in_ok-push.ensures.items
    ∙ map-append at c.loop-id.positions.items ((x, i) ∷ [])
    ∙ ap₂ (λ (done : List (List Op)) (o : List Op). done ++ o ∷ []) c.loop-id.invariant here
    ∙ sym (map-append of (take k ids) (x ∷ []))
    ∙ ap (map of) (sym (take_more ids k none c.loop-id-test.true))

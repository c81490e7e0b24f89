use Rattle.std.proofs.Common.{◌≡◌, ◌++◌, ◌∷◌, [], Contains, Some, length, sym, ap, subst, ◌∙◌}
use Rattle.std.proofs.Common.{arith}
use Rattle.epx_types.proofs.Common.{Instance, slice_get-from_map}
use Rattle.epx_graph.specs.inner.Remainder.{RemainderView}
use Rattle.epx_graph.proofs.RemainderLemmas.{ArePositionTables-skip, ArePositionTables-push}
use Rattle.epx_graph.proofs.remainder.Remainder.new.Goals as goal

pub loop-position-preserved-then-is_done_near : goal.loop-position-preserved-then-is_done_near
loop-position-preserved-then-is_done_near c =
    let r : RemainderView = record { whole = c.args.merged.now; done = c.args.done.now } in
    let i = c.loop-position.position in
    let e = slice_get-from_map (λ (d : Instance). d.id) r.whole i c.id_at-id.result
    c.id_at-id.ensures in
    let among : Contains r.done e.0.id =
    subst (Contains r.done) (sym e.2) (c.is_done_near.ensures.0 c.if-is_done_near.true) in
    rw c.in_ok-push.ensures.items
    (ArePositionTables-skip r c.loop-position.positions.items c.loop-position.positions_left.items i
    e.0
    e.1 c.loop-position.invariant among)

pub loop-position-preserved : goal.loop-position-preserved
loop-position-preserved c =
    let r : RemainderView = record { whole = c.args.merged.now; done = c.args.done.now } in
    let i = c.loop-position.position in
    let positions = c.loop-position.positions.items in
    let positions_left = c.loop-position.positions_left.items in
    let e = slice_get-from_map (λ (d : Instance). d.id) r.whole i c.id_at-id.result
    c.id_at-id.ensures in
    let left : ¬ Contains r.done e.0.id =
    λ h. cc (
      c.is_done_near.ensures.1 (subst (Contains r.done) e.2 h),
      c.if-is_done_near.false,
    ) in
    let placed : c.push-in-loop-position.new.self.items ≡ positions_left ++ Some (length positions)
    ∷ [] = c.in_ok-push-2.ensures.items ∙ ap (λ n. positions_left ++ Some n ∷ [])
    (omega (arith, c.len.ensures, c.loop-position.positions.ok.0)) in
    rw (c.in_ok-push-3.ensures.items, placed)
    (ArePositionTables-push r positions positions_left i e.0 e.1 c.loop-position.invariant left)

use Rattle.std.proofs.Common.{◌∙◌, ◌++◌, ◌∷◌, [], List, Option, ap, ap₂, sym, take, drop, ◌-◌}
use Rattle.std.proofs.Common.{option_and_then, slice_get}
use Rattle.epx_types.proofs.Common.{map_push, take_more}
use Rattle.epx_linear.specs.declared.client_call.ClientCall.{ClientCall}
use Rattle.epx_linear.specs.ClientCalls.{call_of, calls_at, calls_in}
use Rattle.epx_linear.proofs.call_places.find_piece.Goals as goal

pub loop-id-preserved : goal.loop-id-preserved
loop-id-preserved c =
    let h = c.args.history.now in
    let start = c.range-start.result.0 in
    let ids = take (c.range-start.result.1 - start) (drop start c.args.ids.now) in
    let i = c.loop-id.id-index in
    ap (calls_at h) c.in_ok-push.ensures.items
    ∙ map_push (option_and_then (slice_get h)) c.loop-id.places.items c.find.result
    ∙ ap₂ (λ (cs : List (Option ClientCall)) (o : Option ClientCall). cs ++ o ∷ [])
    c.loop-id.invariant c.find.ensures
    ∙ sym (ap (calls_in h) (take_more ids i _ c.loop-id-test.true)
    ∙ map_push (call_of h) (take i ids) _)

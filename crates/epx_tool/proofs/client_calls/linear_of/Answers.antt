use Rattle.std.proofs.Common.{◌≡◌, ◌∙◌, List, Option, [], ap, ap₂, refl, subst}
use Rattle.std.proofs.Common.{subst₂, sym}
use Rattle.std.specs.FinMap as contents
use Rattle.epx_types.proofs.Common.{IsExecutionOrder, commands_in, execute, ranked_ids}
use Rattle.epx_types.proofs.Common.{remaining-nil}
use Rattle.epx_types.specs.declared.id.Id.{Id}
use Rattle.epx_types.specs.declared.op.Op.{Op}
use Rattle.epx_types.specs.declared.reply.Reply.{Reply}
use Rattle.epx_linear.specs.declared.client_call.ClientCall.{ClientCall}
use Rattle.epx_linear.specs.ClientCalls.{calls_at, calls_in}
use Rattle.epx_linear.specs.LateCalls.{AreFoundLate}
use Rattle.epx_linear.specs.LinearTexts.{linear_text}
use Rattle.epx_linear.proofs.LinearTextLemmas.{IsLinearText-of_order}
use Rattle.epx_tool.proofs.ReportLemmas.{length-ids_within}
use Rattle.epx_tool.proofs.client_calls.linear_of.Goals as goal

pub places-requires-after_bounds : goal.places-requires-after_bounds
places-requires-after_bounds g c κs within =
    let m = c.args.merged.now in
    let order = c.in_ok-order.order in
    length-ids_within [] m order
    (subst (λ n. IsExecutionOrder n order) (sym (remaining-nil m))
    (c.in_ok-order.ensures.whole c.in_ok-graph.ensures.graph)) c.ids.result.now c.ids.ensures
    c.requires.few

pub run_and_find-requires-clause-few : goal.run_and_find-requires-clause-few
run_and_find-requires-clause-few g c κs within =
    let m = c.args.merged.now in
    let order = c.in_ok-order.order in
    length-ids_within [] m order
    (subst (λ n. IsExecutionOrder n order) (sym (remaining-nil m))
    (c.in_ok-order.ensures.whole c.in_ok-graph.ensures.graph)) c.ids-2.result.now c.ids-2.ensures
    c.requires.few

pub returns-clause-text : goal.returns-clause-text
returns-clause-text g c =
    let m = c.args.merged.now in
    let h = c.args.history.now in
    let order = c.in_ok-order.order in
    let ids = ranked_ids order in
    let replies = c.in_ok-replies.replies.items in
    let late = c.in_ok-replies.late.items in
    let text = c.in_ok-text.text.items in
    let calls : calls_at h c.deref.result.now ≡ calls_in h ids =
    ap (calls_at h) c.deref.ensures.value ∙ c.in_ok-places.ensures.calls
    ∙ ap (calls_in h) c.ids.ensures in
    let found : AreFoundLate (commands_in m ids) (calls_in h ids) late =
    subst₂ (λ (cs : List (List Op)) (found : List (Option ClientCall)). AreFoundLate cs found late)
    (ap (commands_in m) c.ids-2.ensures) calls c.in_ok-replies.ensures.late in
    let printed : text ≡ linear_text ids replies h late = c.in_ok-text.ensures
    ∙ ap (λ (xs : List Id). linear_text xs c.deref-2.result.now h c.deref-4.result.now)
    c.ids-3.ensures
    ∙ ap₂ (λ (rs : List Reply) (found : List (Option Id)). linear_text ids rs h found)
    c.deref-2.ensures.value c.deref-4.ensures.value in
    rw c.new.ensures.text (IsLinearText-of_order m h order
    (c.in_ok-order.ensures.whole c.in_ok-graph.ensures.graph) ids (commands_in m ids) replies text
    refl refl
    (c.in_ok-replies.ensures.replies
    ∙ ap (λ (xs : List Id). (execute (commands_in m xs) contents.empty).replies) c.ids-2.ensures)
    (record { late = late; found = found; printed = printed }))

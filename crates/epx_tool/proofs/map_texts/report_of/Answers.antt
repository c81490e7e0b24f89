use Rattle.std.proofs.Common.{refl, sym, ap, subst, ◌∙◌}
use Rattle.epx_types.proofs.Common.{remaining, execute, IsWaitingList, commands_in}
use Rattle.epx_views.specs.between.OpeningText.{opening_text}
use Rattle.epx_tool.proofs.ReportLemmas.{length-ids_within, IsReportAfter-printed}
use Rattle.epx_tool.proofs.ReportPartsLemmas.{resumed_text-parts}
use Rattle.epx_tool.proofs.map_texts.report_of.Goals as goal

pub replay-requires-after_bounds : goal.replay-requires-after_bounds
replay-requires-after_bounds g c κs within =
    length-ids_within c.args.done.now c.args.merged.now c.in_ok-order.order
    (c.in_ok-order.ensures.order c.args.done.now c.in_ok-graph.ensures) c.ids.result.now
    c.ids.ensures c.requires.few

pub returns-clause-text : goal.returns-clause-text
returns-clause-text g c =
    let done = c.args.done.now in
    let m = c.args.merged.now in
    let order = c.in_ok-order.order in
    let ids = c.ids.result.now in
    let waiting = c.deref-3.result.now in
    let commands = commands_in m ids in
    let replies = (execute commands c.args.store).replies in
    let opening = c.in_ok-text.ensures ∙ ap (opening_text done order)
    (c.deref-2.ensures.value ∙ sym c.deref-3.ensures.value) in
    let listed = c.in_ok-waiters.ensures (remaining done m) c.in_ok-graph.ensures in
    let ran = c.in_ok-store.ensures in
    let text = c.in_ok-text-2.text.items in
    rw c.new.ensures.text (IsReportAfter-printed done m order
    (c.in_ok-order.ensures.order done c.in_ok-graph.ensures) ids c.ids.ensures c.args.store
    waiting commands replies c.in_ok-store.store text
    (subst (IsWaitingList (remaining done m)) (sym c.deref-3.ensures.value) listed) refl refl ran.0
    (resumed_text-parts done order waiting ids replies c.in_ok-store.store
    c.in_ok-text.text.items _ c.append_waiting.new.text.items text c.ids.ensures opening ran.1
    c.in_ok-append_waiting.ensures c.in_ok-text-2.ensures))

pub returns-clause-found : goal.returns-clause-found
returns-clause-found g c =
    let left = remaining c.args.done.now c.args.merged.now in
    rw c.new.ensures.found (c.some_wait-has_findings.ensures left
    (subst (IsWaitingList left) (sym c.deref.ensures.value)
    (c.in_ok-waiters.ensures left c.in_ok-graph.ensures)))

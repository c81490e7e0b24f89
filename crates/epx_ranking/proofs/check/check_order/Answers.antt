use Rattle.std.proofs.Common.{ℕ, rules}
use Rattle.epx_types.proofs.Common.{MatchResult-weaker}
use Rattle.epx_ranking.specs.inner.NodeLists.{AreListedReady, IsListedIfReady}
use Rattle.epx_ranking.specs.OrderFaults.{HasAllReady}
use Rattle.epx_ranking.proofs.PrefixLemmas.{IsLawful-from_prefix, IsOrderFault-from_prefix}
use Rattle.epx_ranking.proofs.ListedNodeLemmas.{IsOrderFault-missing, IsOrderFault-from_listing}
use Rattle.epx_ranking.proofs.ListedNodeLemmas.{HasAllReady-from_marks}
use Rattle.epx_ranking.proofs.check.check_order.Goals as goal

pub returns-in_err-node_list : goal.returns-in_err-node_list
returns-in_err-node_list c =
    let m = c.args.merged.now in
    let fault = IsOrderFault-from_listing m c.args.ids.now c.in_err-node_list.field-0.0
    (c.in_err-node_list.ensures.sound m c.requires) in
    search rules

pub returns-in-Some : goal.returns-in-Some
returns-in-Some c =
    let m = c.args.merged.now in
    let g = c.args.graph.now in
    let is = c.requires in
    let node_list = c.in_ok-node_list.node_list in
    let found = rw (c.deref-2.ensures.value, c.deref-3.ensures.value) at c.in-Some.ensures in
    IsOrderFault-missing m g is c.args.ids.now node_list.nodes.items node_list.marks.items
    c.in_ok-node_list.ensures.listed c.in_ok-ready.ready.items c.in_ok-ready.ensures
    c.in-Some.node c.id.result c.id.ensures found.0 found.1 found.2
    (c.in_ok-node_list.ensures.sound m is)

pub returns : goal.returns
returns c =
    let m = c.args.merged.now in
    let g = c.args.graph.now in
    let is = c.requires in
    let ids = c.args.ids.now in
    let nodes = c.in_ok-node_list.node_list.nodes.items in
    let marks = c.in_ok-node_list.node_list.marks.items in
    let listed = c.in_ok-node_list.ensures.listed in
    let held : (k : ℕ) → IsListedIfReady c.in_ok-ready.ready.items marks k =
    rw (c.deref-2.ensures.value, c.deref-3.ensures.value) at c.in_default.ensures in
    let whole : HasAllReady m ids = HasAllReady-from_marks m g is ids nodes marks listed
    c.in_ok-ready.ready.items c.in_ok-ready.ensures held in
    let ready : AreListedReady m g ids nodes marks =
    record { listed = listed; once = c.in_ok-node_list.ensures.sound m is } in
    MatchResult-weaker c.check_listed.result (c.check_listed.ensures ids ready)
    (λ _ prefix. IsLawful-from_prefix m ids whole prefix) (IsOrderFault-from_prefix m ids whole)

use Rattle.std.proofs.Common.{◌<◌, All, Contains, IsTrue, length, sym, subst, ap, arith}
use Rattle.epx_types.proofs.Common.{IfOk-weaker, IsCovered}
use Rattle.epx_graph.proofs.Common.{edges_of}
use Rattle.epx_audit.specs.inner.RelatedTouches.{AreAllRelated}
use Rattle.epx_audit.specs.inner.Touches.{HoldTouches}
use Rattle.epx_audit.proofs.QuickAuditLemmas.{IsCovered-from_touches}
use Rattle.epx_audit.proofs.OrderNodeLemmas.{All-nodes_in_map}
use Rattle.epx_audit.proofs.quick_audit.is_found_covered.Goals as goal

pub find_touches-requires : goal.find_touches-requires
find_touches-requires c =
    let m = c.args.merged.now in
    subst (All (λ k. k < length m)) (sym c.deref.ensures.value)
    (All-nodes_in_map m c.args.order.now c.in_ok-nodes.nodes.items c.in_ok-nodes.ensures)

pub are_all_related-requires-clause-placed : goal.are_all_related-requires-clause-placed
are_all_related-requires-clause-placed c t h =
    let placed = c.in_ok-touches.ensures.placed t
    (subst (λ ts. Contains ts t) c.deref-2.ensures.value h) in
    omega (arith, placed, ap length c.deref.ensures.value, ap length c.in_ok-reach.ensures.nodes)

pub returns : goal.returns
returns c = IfOk-weaker c.are_all_related.result
    (λ yes. IsTrue yes → AreAllRelated (edges_of c.args.graph.now) c.in_ok-reach.reach.nodes.items
    c.deref-2.result.now (length c.deref-2.result.now))
    (λ yes. IsTrue yes → IsCovered c.args.merged.now) (λ yes linked sure.
    let m = c.args.merged.now in
    let g = c.args.graph.now in
    let start = c.args.start in
    let nodes = c.in_ok-nodes.nodes.items in
    let reach = c.in_ok-reach.reach.nodes.items in
    let touches = c.in_ok-touches.touches.items in
    let hold = subst (λ ns. HoldTouches start m ns (length ns) touches) c.deref.ensures.value
    c.in_ok-touches.ensures.whole in
    let on = subst (λ ts. AreAllRelated (edges_of g) reach ts (length ts)) c.deref-2.ensures.value
    (linked sure) in
    let all = subst (λ ns. AreAllRelated (edges_of g) ns touches (length touches))
    c.in_ok-reach.ensures.nodes on in
    IsCovered-from_touches m g c.requires.graph c.args.order.now c.requires.order nodes
    c.in_ok-nodes.ensures start touches all hold) c.are_all_related.ensures

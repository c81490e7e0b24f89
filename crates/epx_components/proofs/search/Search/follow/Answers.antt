use Rattle.std.proofs.Common.{◌<◌, length, arith}
use Rattle.epx_types.proofs.Common.{get_or_read, on_ok_weaker}
use Rattle.epx_graph.proofs.Common.{edges_of}
use Rattle.epx_components.proofs.EdgeLemmas.{edges_of-target_within}
use Rattle.epx_components.proofs.FollowLemmas.{work_left-follow, IsSearch-follow, IfOk-and}
use Rattle.epx_components.proofs.FollowLemmas.{IsInTopGroup-stays}
use Rattle.epx_components.proofs.PathEndLemmas.{visit_of-open_within}
use Rattle.epx_components.specs.inner.SearchInvariants.{KeepsSearch}
use Rattle.epx_components.specs.inner.SearchStates.{state}
use Rattle.epx_components.specs.inner.SearchWork.{work_left}
use Rattle.epx_components.proofs.search.Search.follow.Goals as goal

pub arrive-requires-clause-node : goal.arrive-requires-clause-node
arrive-requires-clause-node c =
    let s = c.args.self.now in
    let w = c.requires.search.1 in
    let in' = visit_of-open_within _ _ _ (state s) c.args.node c.requires.next.position w
    c.requires.next.is_open in
    let next = get_or_read s.looked_at.items c.args.node _ (omega (arith, w.looks))
    c.index-next.ensures 0 in
    rw (c.edges.ensures.edges, next)
    (omega (
      arith,
      w.all_visits,
      s.visits.ok.0,
      edges_of-target_within c.args.graph.now c.requires.graph c.args.node _ c.requires.next.left,
    ))

pub returns-clause-keeps : goal.returns-clause-keeps
returns-clause-keeps c =
    let s = c.args.self.now in
    let edges = edges_of c.args.graph.now in
    let w = c.requires.search.1 in
    let in' = visit_of-open_within edges _ _ (state s) c.args.node c.requires.next.position w
    c.requires.next.is_open in
    let next = get_or_read s.looked_at.items c.args.node _ (omega (arith, w.looks))
    c.index-next.ensures 0 in
    on_ok_weaker {Q = KeepsSearch edges (length c.args.graph.now.ids) (state s)
    (state c.arrive.new.self)} c.arrive.result
    (λ h seen w. IsSearch-follow edges (length c.args.graph.now.ids) seen (state s)
    (state c.arrive.new.self) c.args.node w c.requires.next
    (edges_of-target_within c.args.graph.now c.requires.graph c.args.node _ c.requires.next.left)
    (rw (c.edges.ensures.edges, next) at h)) c.arrive.ensures.arrives

pub returns-clause-less : goal.returns-clause-less
returns-clause-less c =
    let s = c.args.self.now in
    let edges = edges_of c.args.graph.now in
    let w = c.requires.search.1 in
    let in' = visit_of-open_within edges _ _ (state s) c.args.node c.requires.next.position w
    c.requires.next.is_open in
    let next = get_or_read s.looked_at.items c.args.node _ (omega (arith, w.looks))
    c.index-next.ensures 0 in
    on_ok_weaker {Q = work_left c.args.graph.now.edges (state c.arrive.new.self)
    < work_left c.args.graph.now.edges (state s)} c.arrive.result
    (λ h. work_left-follow c.args.graph.now.edges (state s) (state c.arrive.new.self) c.args.node _
    (omega (arith, w.looks)) c.requires.next.left (rw (c.edges.ensures.edges, next) at h))
    c.arrive.ensures.arrives

pub returns-clause-stays : goal.returns-clause-stays
returns-clause-stays c =
    let next = c.requires.next in
    IfOk-and _ _ c.arrive.result
    (λ h opens seen stays. IsInTopGroup-stays _ c.args.node _ next.position
    _ (state c.arrive.new.self) (seen stays) next.is_open next.is_last h) c.arrive.ensures.arrives
    c.arrive.ensures.opens

use Rattle.std.proofs.Common.{◌≡◌, ◌<◌, ℕ, List, Option, None, get_or, sym, subst, ◌∙◌, arith}
use Rattle.epx_types.proofs.Common.{get_or_read, Waiting}
use Rattle.epx_graph.specs.Graphs.{DependencyGraph, IsGraph}
use Rattle.epx_graph.specs.inner.LeastMissing.{AreMarksOf}
use Rattle.epx_graph.specs.inner.Searches.{node_mark}
use Rattle.epx_graph.specs.inner.Waiters.{IsWaiter, AreWaiters}
use Rattle.epx_graph.proofs.GraphNodeLemmas.{IsNodePath-within}
use Rattle.epx_graph.proofs.WaiterLemmas.{AreWaiters-nil, AreWaiters-skip, AreWaiters-push}
use Rattle.epx_graph.proofs.WaiterLemmas.{IsWaitingList-from_waiters}
use Rattle.epx_graph.proofs.waiters.waiting.Goals as goal

mark_read : (g : DependencyGraph) (marks : List (Option ℕ)) (k n : ℕ) (mark : Option ℕ)
    → IsGraph g → AreMarksOf g marks → n ≡ g.committed → k < n → mark ≡ get_or marks k mark
    → node_mark marks k ≡ mark
mark_read g marks k n mark graph are all l read =
    sym (get_or_read marks k mark (omega (arith, are.nodes, graph.committed_nodes)) read None)

pub loop-node-init : goal.loop-node-init
loop-node-init c = rw c.new-waiters.ensures.items
    (AreWaiters-nil c.args.graph.now c.in_ok-marks.marks.items)

pub id-requires-in-loop-node : goal.id-requires-in-loop-node
id-requires-in-loop-node c =
    let g = c.args.graph.now in
    let k = c.loop-node.node in
    let graph = c.in_ok-marks.ensures.fits in
    let are = c.in_ok-marks.ensures.marks in
    let mark = mark_read g c.in_ok-marks.marks.items k c.committed_len-node-end.result
    c.index.result.now graph are c.committed_len-node-end.ensures c.loop-node-test.true
    c.index.ensures in
    let found = are.marked k c.in-Some.missing (mark ∙ c.in-Some.is) in
    IsNodePath-within g graph k found.reached.0 c.in-Some.missing
    (omega (
      arith,
      c.loop-node-test.true,
      c.committed_len-node-end.ensures,
      graph.committed_nodes,
    )) found.reached.1

pub loop-node-preserved-in_default : goal.loop-node-preserved-in_default
loop-node-preserved-in_default c =
    let marks = c.in_ok-marks.marks.items in
    let k = c.loop-node.node in
    let mark = mark_read c.args.graph.now marks k c.committed_len-node-end.result
    c.index.result.now c.in_ok-marks.ensures.fits c.in_ok-marks.ensures.marks
    c.committed_len-node-end.ensures c.loop-node-test.true c.index.ensures in
    AreWaiters-skip c.args.graph.now marks k c.loop-node.waiters.items (mark ∙ c.in_default.is)
    c.loop-node.invariant

pub loop-node-preserved : goal.loop-node-preserved
loop-node-preserved c =
    let g = c.args.graph.now in
    let marks = c.in_ok-marks.marks.items in
    let k = c.loop-node.node in
    let graph = c.in_ok-marks.ensures.fits in
    let mark = mark_read g marks k c.committed_len-node-end.result c.index.result.now graph
    c.in_ok-marks.ensures.marks c.committed_len-node-end.ensures c.loop-node-test.true
    c.index.ensures in
    let w : Waiting = record { id = c.id.result; missing = c.id-in-loop-node.result } in
    let waits : IsWaiter g marks k w =
    record {
      mark = c.in-Some.missing;
      marked = mark ∙ c.in-Some.is;
      id = c.id.ensures;
      missing = c.id-in-loop-node.ensures;
    } in
    rw c.in_ok-push.ensures.items
    (AreWaiters-push g graph marks k c.loop-node.waiters.items w
    (omega (arith, c.loop-node-test.true, c.committed_len-node-end.ensures)) waits
    c.loop-node.invariant)

pub returns : goal.returns
returns c m is =
    let g = c.args.graph.now in
    let marks = c.in_ok-marks.marks.items in
    let all : c.loop-node.node ≡ g.committed =
    omega (
      arith,
      c.committed_len-node-end.ensures,
      c.loop-node-test.false,
      c.loop-node.auto.node-end,
    ) in
    IsWaitingList-from_waiters m g is marks c.in_ok-marks.ensures.marks c.loop-node.waiters.items
    (subst (λ n. AreWaiters g marks n c.loop-node.waiters.items) all c.loop-node.invariant)

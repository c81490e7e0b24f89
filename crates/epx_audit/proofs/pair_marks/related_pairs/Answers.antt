use Rattle.std.proofs.Common.{ℕ, List, length, sym, subst}
use Rattle.epx_types.proofs.Common.{IfOk-weaker}
use Rattle.epx_graph.proofs.Common.{DependencyGraph, edges_of}
use Rattle.epx_audit.specs.between.RelatedPairs.{AreLaterFirst, AreRelatedMarks}
use Rattle.epx_audit.specs.inner.PairMarks.{AreExactMarks}
use Rattle.epx_audit.specs.inner.PathCovers.{IsPathCover}
use Rattle.epx_audit.specs.inner.ReachIndexes.{AreOrderNodes}
use Rattle.epx_audit.proofs.PairMarkLemmas.{AreRelatedMarks-from_exact}
use Rattle.epx_audit.proofs.pair_marks.related_pairs.Goals as goal

pub searched_marks-requires-clause-pairs : goal.searched_marks-requires-clause-pairs
searched_marks-requires-clause-pairs c =
    let are = subst (AreOrderNodes c.args.merged.now c.args.order.now)
    (sym c.in_ok-reach.ensures.nodes) c.in_ok-nodes.ensures in
    subst (λ n. AreLaterFirst n c.args.pairs.now) (sym are.whole) c.requires.pairs

pub covered_marks-requires : goal.covered_marks-requires
covered_marks-requires c =
    let are = subst (AreOrderNodes c.args.merged.now c.args.order.now)
    (sym c.in_ok-reach.ensures.nodes) c.in_ok-nodes.ensures in (
      c.args.graph.now,
      c.in_ok-reach.reach.nodes.items,
      rw c.in-Some.is at c.in_ok-reach.ensures.reach.cover,
      subst (λ n. AreLaterFirst n c.args.pairs.now) (sym are.whole) c.requires.pairs,
    )

pub returns-in-Some : goal.returns-in-Some
returns-in-Some c =
    let m = c.args.merged.now in
    let g = c.args.graph.now in
    let order = c.args.order.now in
    let pairs = c.args.pairs.now in
    let nodes = c.in_ok-reach.reach.nodes.items in
    let are = subst (AreOrderNodes m order) (sym c.in_ok-reach.ensures.nodes)
    c.in_ok-nodes.ensures in
    let first = subst (λ n. AreLaterFirst n pairs) (sym are.whole) c.requires.pairs in
    let cover = rw c.in-Some.is at c.in_ok-reach.ensures.reach.cover in
    IfOk-weaker c.covered_marks.result
    (λ marks. (g : DependencyGraph) (nodes : List ℕ) → IsPathCover g nodes c.in-Some.cover
    → AreLaterFirst (length nodes) pairs → AreExactMarks (edges_of g) nodes pairs marks.items)
    (λ marks. AreRelatedMarks m order pairs marks.items)
    (λ marks exact. AreRelatedMarks-from_exact m g c.requires.graph order nodes are pairs
    marks.items
    (exact g nodes cover first)) c.covered_marks.ensures

pub returns : goal.returns
returns c =
    let m = c.args.merged.now in
    let g = c.args.graph.now in
    let order = c.args.order.now in
    let pairs = c.args.pairs.now in
    let nodes = c.in_ok-reach.reach.nodes.items in
    let are = subst (AreOrderNodes m order) (sym c.in_ok-reach.ensures.nodes)
    c.in_ok-nodes.ensures in
    IfOk-weaker c.searched_marks.result
    (λ marks. AreExactMarks (edges_of g) nodes pairs marks.items)
    (λ marks. AreRelatedMarks m order pairs marks.items)
    (λ marks exact. AreRelatedMarks-from_exact m g c.requires.graph order nodes are pairs
    marks.items
    exact) c.searched_marks.ensures

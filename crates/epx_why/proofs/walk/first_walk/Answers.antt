use Rattle.std.proofs.Common.{◌≡◌, ◌-◌, suc, sym, subst, subst₂, arith}
use Rattle.epx_graph.proofs.Common.{edges_of}
use Rattle.epx_why.specs.inner.NodeWalks.{IsFewest, IsNext, IsWalkBegun}
use Rattle.epx_why.proofs.WalkLemmas.{IsWalkBegun-first, IsWalkBegun-step, IsFirstNodePath-at_end}
use Rattle.epx_why.proofs.WalkLemmas.{IsFewest-edges_of}
use Rattle.epx_why.proofs.walk.first_walk.Goals as goal

pub loop-left-init : goal.loop-left-init
loop-left-init c =
    let g = c.args.graph.now in
    let ds = c.in_ok-distances.distances.items in
    let k = c.args.node in
    let n = c.in-Some.fewest in
    let next = c.next_node-last.result in
    let few : IsFewest ds (edges_of g k) n = subst₂ (λ d x. IsFewest d x n) c.deref.ensures.value
    c.edges.ensures.edges c.in-Some.ensures in
    let is : IsNext g ds (edges_of g k) n next = subst₂ (λ d x. IsNext g d x n next)
    c.deref-2.ensures.value c.edges-2.ensures.edges c.next_node-last.ensures in
    subst (λ nodes. IsWalkBegun g ds c.args.target k (suc n) nodes next n)
    (sym c.in_ok-nodes.ensures.items)
    (IsWalkBegun-first g c.requires.graph c.args.target ds c.in_ok-distances.ensures k n next few
    is)

-- the walk before the step, with one step more to go
begun : (c : goal.After-edges-in-loop-left)
    → IsWalkBegun c.args.graph.now c.in_ok-distances.distances.items
    c.args.target c.args.node (suc c.in-Some.fewest) c.loop-left.nodes.items c.loop-left.last
    (suc (c.loop-left.left - 1))
begun c =
    let more : c.loop-left.left ≡ suc (c.loop-left.left - 1) = omega arith in
    subst (IsWalkBegun c.args.graph.now c.in_ok-distances.distances.items c.args.target c.args.node
    (suc c.in-Some.fewest) c.loop-left.nodes.items c.loop-left.last) more c.loop-left.invariant

pub next_node-last-requires-in-loop-left-clause-some :
    goal.next_node-last-requires-in-loop-left-clause-some
next_node-last-requires-in-loop-left-clause-some c =
    let g = c.args.graph.now in
    let ds = c.in_ok-distances.distances.items in
    let left = c.loop-left.left - 1 in
    let few = IsFewest-edges_of g c.requires.graph c.args.target ds c.in_ok-distances.ensures
    c.loop-left.last left (begun c).distance in
    let few_here : IsFewest c.deref-in-loop-left.result.now c.edges-in-loop-left.result.now left =
    subst₂ (λ d x. IsFewest d x left) (sym c.deref-in-loop-left.ensures.value)
    (sym c.edges-in-loop-left.ensures.edges) few in
    few_here.some

pub loop-left-preserved : goal.loop-left-preserved
loop-left-preserved c =
    let g = c.args.graph.now in
    let ds = c.in_ok-distances.distances.items in
    let k = c.args.node in
    let left = c.loop-left.left - 1 in
    let last = c.loop-left.last in
    let next = c.next_node-last-in-loop-left.result in
    let more : c.loop-left.left ≡ suc left = omega arith in
    let was = subst (IsWalkBegun g ds c.args.target k (suc c.in-Some.fewest) c.loop-left.nodes.items
    last) more c.loop-left.invariant in
    let is : IsNext g ds (edges_of g last) left next = subst₂ (λ d x. IsNext g d x left next)
    c.deref-in-loop-left.ensures.value c.edges-in-loop-left.ensures.edges
    c.next_node-last-in-loop-left.ensures in
    subst (λ nodes. IsWalkBegun g ds c.args.target k (suc c.in-Some.fewest) nodes next left)
    (sym c.in_ok-push.ensures.items)
    (IsWalkBegun-step g c.requires.graph c.args.target ds c.in_ok-distances.ensures k
    (suc c.in-Some.fewest) c.loop-left.nodes.items last left next was is)

pub returns : goal.returns
returns c =
    let g = c.args.graph.now in
    let ds = c.in_ok-distances.distances.items in
    let k = c.args.node in
    let n = c.in-Some.fewest in
    let few : IsFewest ds (edges_of g k) n = subst₂ (λ d x. IsFewest d x n) c.deref.ensures.value
    c.edges.ensures.edges c.in-Some.ensures in
    let done : c.loop-left.left ≡ 0 = omega arith in
    IsFirstNodePath-at_end g c.requires.graph c.args.target ds c.in_ok-distances.ensures k n
    c.loop-left.nodes.items c.loop-left.last few
    (subst (IsWalkBegun g ds c.args.target k (suc n) c.loop-left.nodes.items c.loop-left.last) done
    c.loop-left.invariant)

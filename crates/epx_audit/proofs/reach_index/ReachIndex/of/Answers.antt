use Rattle.std.proofs.Common.{◌≡◌, ℕ, ◌+◌, ◌<◌, List, set, length, get_or, sym, subst, arith}
use Rattle.std.proofs.Common.{IfSome, All}
use Rattle.epx_types.proofs.Common.{get_or_read}
use Rattle.epx_graph.proofs.Common.{edges_of}
use Rattle.epx_audit.specs.inner.ReachIndexes.{IsChain, LeadersJoin}
use Rattle.epx_audit.proofs.ReachIndexLemmas.{AreChains, AreChains-next, IsReachIndex-from_chains}
use Rattle.epx_audit.proofs.OrderNodeLemmas.{All-nodes_in_graph, LeadersJoin-order_nodes}
use Rattle.epx_audit.specs.inner.PathCovers.{IsPathCover}
use Rattle.epx_audit.proofs.reach_index.ReachIndex.of.Goals as goal

-- the node at a position
node_within : (nodes : List ℕ) (ids n node : ℕ) → n < length nodes → node ≡ get_or nodes n node
    → All (λ k. k < ids) nodes → node < ids
node_within nodes ids n node l read in_range =
    omega (arith, get_or_read nodes n node l read 0, in_range n 0 l)

pub next-chain-requires-clause-in_range : goal.next-chain-requires-clause-in_range
next-chain-requires-clause-in_range c =
    subst (All (λ k. k < length c.args.graph.now.ids)) (sym c.deref.ensures.value)
    (All-nodes_in_graph c.args.merged.now c.args.order.now c.args.nodes.items c.requires.nodes
    c.args.graph.now c.requires.graph)

pub next-chain-requires-clause-joined : goal.next-chain-requires-clause-joined
next-chain-requires-clause-joined c =
    subst (LeadersJoin (edges_of c.args.graph.now) c.args.order.now) (sym c.deref.ensures.value)
    (LeadersJoin-order_nodes c.args.merged.now c.args.order.now c.args.nodes.items c.requires.nodes
    c.args.graph.now c.requires.graph c.requires.order)

pub index_mut-requires : goal.index_mut-requires
index_mut-requires c =
    let within = node_within c.args.nodes.items (length c.args.graph.now.ids)
    c.loop-position.position c.index-node.result.now
    (omega (arith, c.loop-position-test.true, c.len-position-end.ensures)) c.index-node.ensures
    (All-nodes_in_graph c.args.merged.now c.args.order.now c.args.nodes.items c.requires.nodes
    c.args.graph.now c.requires.graph) in
    omega (
      arith,
      within,
      c.loop-position.invariant.chains.each_node.0,
      c.loop-position.positions.ok.0,
    )

pub index_mut-requires-in-loop-position : goal.index_mut-requires-in-loop-position
index_mut-requires-in-loop-position c =
    let within = node_within c.args.nodes.items (length c.args.graph.now.ids)
    c.loop-position.position c.index-node.result.now
    (omega (arith, c.loop-position-test.true, c.len-position-end.ensures)) c.index-node.ensures
    (All-nodes_in_graph c.args.merged.now c.args.order.now c.args.nodes.items c.requires.nodes
    c.args.graph.now c.requires.graph) in
    omega (
      arith,
      within,
      c.loop-position.invariant.chains.each_node.1,
      c.loop-position.chain_start.ok.0,
    )

pub loop-position-preserved : goal.loop-position-preserved
loop-position-preserved c =
    let g = c.args.graph.now in
    let nodes = c.args.nodes.items in
    let n = c.loop-position.position in
    let chain = c.next-chain.result in
    let in' : n < length nodes =
    omega (arith, c.loop-position-test.true, c.len-position-end.ensures) in
    let node : c.index-node.result.now ≡ get_or nodes n 0 =
    get_or_read nodes n _ in' c.index-node.ensures 0 in
    let is : IsChain (edges_of g) nodes (n + 1) chain =
    subst (λ ns. IsChain (edges_of g) ns (n + 1) chain) c.deref.ensures.value
    c.next-chain.ensures in
    let in_graph = All-nodes_in_graph c.args.merged.now c.args.order.now nodes c.requires.nodes g
    c.requires.graph in
    let chains = AreChains-next g nodes c.loop-position.starts.items c.loop-position.positions.items
    c.loop-position.chain_start.items n chain (in_graph n 0 in') is
    c.loop-position.invariant.chains in
    let P : List ℕ → Type 0 = λ starts. AreChains g nodes starts
    (set c.loop-position.positions.items c.index-node.result.now n)
    (set c.loop-position.chain_start.items c.index-node.result.now chain.low) (n + 1) in
    record {
      chain = is;
      chains = subst P (sym c.in_ok-push.ensures.items) (rw node chains);
    }

pub returns-clause-reach : goal.returns-clause-reach
returns-clause-reach c =
    let end : c.loop-position.position ≡ length c.args.nodes.items =
    omega (
      arith,
      c.loop-position-test.false,
      c.loop-position.auto.position-end,
      c.len-position-end.ensures,
    ) in
    let nodes = c.args.nodes.items in
    IsReachIndex-from_chains c.args.graph.now _ c.loop-position.position
    (All-nodes_in_graph c.args.merged.now c.args.order.now nodes c.requires.nodes c.args.graph.now
    c.requires.graph) end c.loop-position.invariant.chains (subst
    (λ ns. IfSome c.in_ok-cover.cover (IsPathCover c.args.graph.now ns)) c.deref-2.ensures.value
    c.in_ok-cover.ensures)

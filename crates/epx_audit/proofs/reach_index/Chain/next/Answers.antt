use Rattle.std.proofs.Common.{◌≡◌, ◌-◌, get_or, sym, ◌∙◌, refl, arith}
use Rattle.epx_graph.proofs.Common.{edges_of, NodeReaches}
use Rattle.epx_components.proofs.NodePathLemmas.{NodeReaches-itself, NodeReaches-edge}
use Rattle.epx_components.proofs.NodePathLemmas.{NodeReaches-trans}
use Rattle.epx_audit.proofs.ReachIndexLemmas.{IsChain-next, NodeReaches-chain}
use Rattle.epx_audit.proofs.reach_index.Chain.next.Goals as goal
use Rattle.epx_types.proofs.Common.{id_eq-Decides}

pub returns-then-eq : goal.returns-then-eq
returns-then-eq c =
    let edges = edges_of c.args.graph.now in
    let nodes = c.args.nodes.now in
    let n = c.args.position in
    let chain = c.args.self in
    let r = c.component_of.ensures in
    let s = c.component_of-2.ensures in
    let same : c.component_of.result ≡ c.component_of-2.result =
    (id_eq-Decides c.component_of.result c.component_of-2.result).0
    (sym c.eq.ensures ∙ c.if-eq.true) in
    let leaders : r.0.leader ≡ s.0.leader = r.2 ∙ (same ∙ sym s.2) in
    let up : NodeReaches edges (get_or nodes (n - 1) 0) (get_or nodes n 0) =
    c.requires.joined (n - 1) n s.0 r.0 s.1 r.1 (sym leaders) in
    let down : NodeReaches edges (get_or nodes n 0) (get_or nodes (n - 1) 0) =
    c.requires.joined n (n - 1) r.0 s.0 r.1 s.1 leaders in
    let old = c.requires.chain.start (omega (arith, c.if-position-eq0.false)) in
    IsChain-next edges nodes n chain (omega (arith, old.0)) (NodeReaches-trans edges _ _ _ old.1 up)
    (NodeReaches-chain edges nodes n chain down c.requires.chain)

pub returns-then-has_edge : goal.returns-then-has_edge
returns-then-has_edge c =
    let edges = edges_of c.args.graph.now in
    let nodes = c.args.nodes.now in
    let n = c.args.position in
    let down : NodeReaches edges (get_or nodes n 0) (get_or nodes (n - 1) 0) =
    NodeReaches-edge edges _ _ (c.has_edge.ensures c.if-has_edge.true) in
    IsChain-next edges nodes n (record { start = n; low = c.args.self.low }) (omega arith)
    (NodeReaches-itself edges _ _ refl)
    (NodeReaches-chain edges nodes n c.args.self down c.requires.chain)

use Rattle.std.proofs.Common.{◌≡◌, ◌<◌, length, get_or, arith, IsTrue}
use Rattle.epx_types.proofs.Common.{get_or_read, All-get_or, IfOk-weaker}
use Rattle.epx_graph.proofs.Common.{edges_of, NodeReaches}
use Rattle.epx_components.proofs.NodePathLemmas.{NodeReaches-edge, NodeReaches-trans}
use Rattle.epx_audit.proofs.search.PathSearch.reaches.Goals as goal
use Rattle.epx_audit.proofs.search.PathSearch.reaches.Goals.{then-reaches_by_chain-via-then-reaches_by_chain}
use Rattle.epx_audit.proofs.search.PathSearch.reaches.Goals.{then-reaches_by_chain-via-else-reaches_by_chain+then-has_edge}

pub returns-in-Some-clause-reaches : goal.returns-in-Some-clause-reaches
returns-in-Some-clause-reaches c = λ yes.
    let cover = rw c.in-Some.is at c.requires.reach.cover in
    (c.reaches.ensures c.args.graph.now c.args.reach.now.nodes.items cover c.requires.later
    c.requires.earlier).0 yes

pub returns-then-reaches_by_chain-clause-reaches : goal.returns-then-reaches_by_chain-clause-reaches
returns-then-reaches_by_chain-clause-reaches c = λ yes.
    let g = c.args.graph.now in
    let edges = edges_of g in
    let nodes = c.args.reach.now.nodes.items in
    let later = c.args.later in
    let earlier = c.args.earlier in
    let node = get_or nodes later 0 in
    let node_in : node < length g.ids =
    All-get_or (λ k. k < length g.ids) nodes later 0 c.requires.later
    c.requires.reach.in_range in
    let read : c.index-node.result.now ≡ node =
    get_or_read nodes _ _ c.requires.later c.index-node.ensures 0 in
    elim c.then-reaches_by_chain.branch [
      | then-reaches_by_chain-via-then-reaches_by_chain w ↦
          let between = (rw read at c.reaches_by_chain.ensures) w.if-reaches_by_chain.true in
          (c.requires.reach.down node earlier node_in between.0 between.1).1
      | then-reaches_by_chain-via-else-reaches_by_chain+then-has_edge w ↦
          let other : w.index.result.now ≡ get_or nodes earlier 0 =
          get_or_read nodes _ _ c.requires.earlier w.index.ensures 0 in
          NodeReaches-edge edges node (get_or nodes earlier 0)
          ((rw (read, other) at w.has_edge.ensures) w.if-has_edge.true)
    ]

pub returns-clause-reaches : goal.returns-clause-reaches
returns-clause-reaches c =
    let edges = edges_of c.args.graph.now in
    let nodes = c.args.reach.now.nodes.items in
    let starts = c.args.reach.now.starts.items in
    let earlier = c.args.earlier in
    let node = get_or nodes c.args.later 0 in
    let start = get_or starts earlier 0 in
    let read : c.index-node.result.now ≡ node =
    get_or_read nodes _ _ c.requires.later c.index-node.ensures 0 in
    let first : c.index-2.result.now ≡ start =
    get_or_read starts _ _ (omega (arith, c.requires.earlier, c.requires.reach.one_start_each))
    c.index-2.ensures 0 in
    let on = (c.requires.reach.start earlier c.requires.earlier).1 in
    IfOk-weaker c.find_path.result
    (λ yes. IsTrue yes → NodeReaches edges node (get_or nodes start 0))
    (λ yes. IsTrue yes → NodeReaches edges node (get_or nodes earlier 0))
    (λ yes found true. NodeReaches-trans edges node (get_or nodes start 0) (get_or nodes earlier 0)
    (found true) on)
    (rw (read, first) at c.find_path.ensures.reaches)

use Rattle.std.proofs.Common.{sym, ◌∙◌}
use Rattle.epx_types.proofs.Common.{false≢true, remaining, Contains-remaining_iff}
use Rattle.epx_graph.proofs.Common.{IsCommitted-iff_node}
use Rattle.epx_components.proofs.ReadyRankLemmas.{IsRanked-remaining}
use Rattle.epx_components.proofs.ReadyNodeLemmas.{ReachesMissing-not_if_ready}
use Rattle.epx_ranking.proofs.ready.rank_of.Goals as goal

pub returns-then-node_rank-clause-none : goal.returns-then-node_rank-clause-none
returns-then-node_rank-clause-none c done x is at ready =
    ReachesMissing-not_if_ready (remaining done c.args.merged.now) c.args.graph.now is c.args.node x
    at ready
    (c.requires.node_rank.missing.0 c.if-node_rank.true)

pub seq_of-requires : goal.seq_of-requires
seq_of-requires c =
    let m = c.args.merged.now in
    let done = c.requires.graph.0 in
    let left =
    (IsCommitted-iff_node (remaining done m) c.args.graph.now c.requires.graph.1 c.args.node
    c.id-id.result c.id-id.ensures).0 c.requires.committed in
    ((Contains-remaining_iff done m c.id-id.result).0 left).0

pub returns-clause-rank : goal.returns-clause-rank
returns-clause-rank c done is =
    let i = c.seq_of.ensures in
    rw (sym i.3) (IsRanked-remaining done c.args.merged.now c.args.graph.now is c.args.node
    c.id-id.result i.0 c.args.node_rank c.id.result c.id-id.ensures i.1 i.2
    c.requires.committed c.requires.node_rank
    (λ waits. false≢true (sym c.if-node_rank.false ∙ waits)) c.id.ensures)

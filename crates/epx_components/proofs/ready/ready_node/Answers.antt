use Rattle.epx_components.proofs.ReadyMarkLemmas.{IsReady-from_mark, is_marked-from_ready}
use Rattle.epx_components.proofs.ready.ready_node.Goals as goal

pub returns-then-ready-node-clause-ready : goal.returns-then-ready-node-clause-ready
returns-then-ready-node-clause-ready c m is =
    IsReady-from_mark m c.args.graph.now is c.args.ready.now c.requires c.in_ok-node.node c.args.id
    c.in_ok-node.ensures c.if-ready-node.true

pub returns-else-ready-node-clause-ready : goal.returns-else-ready-node-clause-ready
returns-else-ready-node-clause-ready c m is h =
    let marked = is_marked-from_ready m c.args.graph.now is c.args.ready.now c.requires
    c.in_ok-node.node c.args.id c.in_ok-node.ensures h in
    let not = c.if-ready-node.false in
    absurd (cc (marked, not))

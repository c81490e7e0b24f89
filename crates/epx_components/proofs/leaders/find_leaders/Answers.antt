use Rattle.std.proofs.Common.{◌≡◌, arith, subst}
use Rattle.epx_graph.proofs.Common.{edges_of}
use Rattle.epx_components.specs.between.Partitions.{parts}
use Rattle.epx_components.proofs.LeaderLemmas.{AreLeadersFrom, IsNodeLeader-from_leaders}
use Rattle.epx_components.proofs.leaders.find_leaders.Goals as goal

pub returns-clause-each : goal.returns-clause-each
returns-clause-each c = λ k l.
    let p = parts c.args.partition.now in
    let leaders = c.loop-node.leaders.items in
    let end : c.loop-node.node ≡ 0 = omega (arith, c.loop-node-test.false) in
    IsNodeLeader-from_leaders (edges_of c.args.graph.now) p leaders c.requires.is
    (subst (AreLeadersFrom p leaders) end c.loop-node.invariant.leaders) k
    (omega (arith, c.requires.each_node))

use Rattle.std.proofs.Common.{◌<◌, ◌^◌, arith}
use Rattle.epx_graph.proofs.Common.{edges_of}
use Rattle.epx_components.specs.between.Partitions.{parts}
use Rattle.epx_components.proofs.DepthLemmas.{IsNodeDepth-from_depths}
use Rattle.epx_components.proofs.depths.find_depths.Goals as goal

pub returns-clause-each : goal.returns-clause-each
returns-clause-each c = λ k l.
    let first = c.in_ok-depths in
    let fits : c.args.partition.now.count < 2 ^ 64 =
    omega (arith, first.ensures.len, first.depths.ok.1, first.depths.small) in
    IsNodeDepth-from_depths (edges_of c.args.graph.now) (parts c.args.partition.now) c.requires.is
    c.collect_bottom_up.result.items c.collect_bottom_up.ensures.len fits first.depths.items
    (first.ensures.items_if_clones_equal (λ y same. same)) c.collect_bottom_up.ensures.each k
    (omega (arith, l, c.requires.each_node))

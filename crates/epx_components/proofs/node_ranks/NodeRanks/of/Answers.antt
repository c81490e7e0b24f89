use Rattle.epx_components.specs.between.Partitions.{parts}
use Rattle.epx_components.proofs.NodeRankLemmas.{IsNodeRank-by_node}
use Rattle.epx_components.proofs.node_ranks.NodeRanks.of.Goals as goal

pub returns-clause-each : goal.returns-clause-each
returns-clause-each c =
    IsNodeRank-by_node c.args.graph.now (parts c.in_ok-partition.partition) _ _ _
    c.in_ok-partition.ensures.each_node c.in_ok-leaders.ensures.each
    c.in_ok-depths.ensures.each c.in_ok-missing.ensures.each

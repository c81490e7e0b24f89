use Rattle.std.proofs.Common.{arith}
use Rattle.epx_graph.proofs.Common.{edges_of}
use Rattle.epx_components.specs.between.Partitions.{parts}
use Rattle.epx_ranking.proofs.EndLemmas.{IsEndBelow-exact}
use Rattle.epx_ranking.proofs.check.ends.find_ends_below.Goals as goal

pub returns-clause-each : goal.returns-clause-each
returns-clause-each c = λ k l.
    IsEndBelow-exact (edges_of c.args.graph.now) (parts c.args.partition.now)
    c.requires.partition.is c.args.ends.now c.collect_bottom_up.result.items
    c.in_ok-below.below.items _ (c.in_ok-below.ensures.items_if_clones_equal (λ y same. same))
    c.collect_bottom_up.ensures.each k (omega (arith, l, c.requires.partition.each_node))

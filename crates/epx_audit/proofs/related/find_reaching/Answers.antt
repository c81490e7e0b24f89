use Rattle.std.proofs.Common.{sym, arith}
use Rattle.epx_graph.proofs.Common.{edges_of}
use Rattle.epx_components.specs.between.Partitions.{parts}
use Rattle.epx_audit.proofs.ReachedBitLemmas.{NodeReaches-reaching_bits}
use Rattle.epx_audit.proofs.related.find_reaching.Goals as goal

pub returns-clause-reaching : goal.returns-clause-reaching
returns-clause-reaching c = λ b k lb lk.
    NodeReaches-reaching_bits (edges_of c.args.graph.now) (parts c.args.partition.now)
    c.requires.partition.is
    c.args.sources.now c.in_ok-words.words.items c.in_ok-words.ensures.marks
    (rw (sym c.requires.partition.each_node) at c.requires.sources) b lb _
    (c.collect_bottom_up.ensures.each b) k (omega (arith, lk, c.requires.partition.each_node))

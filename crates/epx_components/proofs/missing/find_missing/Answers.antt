use Rattle.std.proofs.Common.{get_or, false, IsTrue, arith}
use Rattle.epx_graph.proofs.Common.{edges_of}
use Rattle.epx_components.specs.between.Partitions.{parts}
use Rattle.epx_components.proofs.MissingLemmas.{ReachesMissing-by_marks, ReachesMissing-if_none}
use Rattle.epx_components.proofs.missing.find_missing.Goals as goal

pub returns-then-committed_len-len-clause-each : goal.returns-then-committed_len-len-clause-each
returns-then-committed_len-len-clause-each c = λ k l.
    ReachesMissing-if_none (edges_of c.args.graph.now) (parts c.args.partition.now) c.requires.is _
    (λ d. IsTrue (get_or c.loop-node.marks.items d false)) c.loop-node.node
    (omega (
      arith,
      c.requires.each_node,
      c.loop-node-test.false,
      c.loop-node.auto.node-end,
      c.len-node-end.ensures.len,
      c.len-node-end.ensures.fits.committed_nodes,
      c.committed_len-node.ensures,
    ))
    c.loop-node.invariant.each
    (omega (
      arith,
      c.requires.each_node,
      c.committed_len.ensures,
      c.len.ensures.len,
      c.if-committed_len-len.true,
    ))
    k (omega (arith, l, c.requires.each_node))

pub returns-clause-each : goal.returns-clause-each
returns-clause-each c = λ k l.
    ReachesMissing-by_marks (edges_of c.args.graph.now) (parts c.args.partition.now) c.requires.is _
    (λ d. IsTrue (get_or c.loop-node.marks.items d false)) c.loop-node.node
    (omega (
      arith,
      c.requires.each_node,
      c.loop-node-test.false,
      c.loop-node.auto.node-end,
      c.len-node-end.ensures.len,
      c.len-node-end.ensures.fits.committed_nodes,
      c.committed_len-node.ensures,
    ))
    c.loop-node.invariant.each _ (c.collect_bottom_up.ensures.each 0) k
    (omega (arith, l, c.requires.each_node))

use Rattle.std.proofs.Common.{◌≡◌, drop}
use Rattle.epx_graph.specs.inner.Remainder.{rest_of}
use Rattle.epx_graph.specs.inner.Nodes.{all_missing_of, AreRowsOf}
use Rattle.epx_graph.proofs.build_graph.numbered_rows.Given as goal

abbrev pub invariant-loop-index : goal.invariant-loop-index
invariant-loop-index l = record {
  rows : AreRowsOf (rest_of l.left) l.ids l.rows l.index;
  missing : l.missing ≡ all_missing_of (rest_of l.left) (drop l.index (rest_of l.left));
}

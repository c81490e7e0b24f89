use Rattle.std.proofs.Common.{◌≡◌, ◌++◌, take}
use Rattle.epx_types.proofs.Common.{remaining_ids}
use Rattle.epx_graph.specs.inner.Remainder.{rest_of}
use Rattle.epx_graph.specs.inner.Nodes.{positions_of, missing_of}
use Rattle.epx_graph.proofs.dependency_rows.gather.Given as goal

abbrev pub invariant-loop-id : goal.invariant-loop-id
invariant-loop-id l = record {
  rows : l.row.rows ≡ l.fn.row.rows;
  row : l.row.row ≡ l.fn.row.row
      ++ positions_of (rest_of l.left) (remaining_ids l.left.done (take l.id-index l.deps));
  missing : l.missing.items ≡ l.fn.missing.items
      ++ missing_of (rest_of l.left) (remaining_ids l.left.done (take l.id-index l.deps));
}

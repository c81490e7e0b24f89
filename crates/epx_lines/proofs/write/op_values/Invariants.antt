use Rattle.std.proofs.Common.{◌≡◌, map, take}
use Rattle.epx_types.proofs.Common.{All}
use Rattle.serde_json.specs.View.{view}
use Rattle.epx_lines.specs.Text.{data_of_op}
use Rattle.epx_lines.specs.inner.WrittenParts.{IsWritableOp}
use Rattle.epx_lines.proofs.write.op_values.Given as goal

abbrev pub invariant-loop-op : goal.invariant-loop-op
invariant-loop-op l = record {
  written : map view l.values.items ≡ map data_of_op (take l.op-index l.ops);
  fit : All IsWritableOp (take l.op-index l.ops);
}

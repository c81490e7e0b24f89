use Rattle.std.proofs.Common.{◌≡◌, map, take}
use Rattle.epx_types.proofs.Common.{All}
use Rattle.serde_json.specs.View.{view}
use Rattle.epx_lines.specs.Text.{data_of_id}
use Rattle.epx_lines.specs.inner.WrittenParts.{IsWritableId}
use Rattle.epx_lines.proofs.write.id_values.Given as goal

abbrev pub invariant-loop-id : goal.invariant-loop-id
invariant-loop-id l = record {
  written : map view l.values.items ≡ map data_of_id (take l.id-index l.ids);
  fit : All IsWritableId (take l.id-index l.ids);
}

use Rattle.std.proofs.Common.{◌≡◌, map, take}
use Rattle.serde_json.specs.View.{view}
use Rattle.epx_lines.specs.Text.{data_of_value}
use Rattle.epx_verify.proofs.difference_lines.values_array.Given as goal

abbrev pub invariant-loop-value : goal.invariant-loop-value
invariant-loop-value l = map view l.items.items ≡ map data_of_value (take l.value-index l.values)

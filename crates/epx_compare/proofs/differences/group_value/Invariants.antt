use Rattle.std.proofs.Common.{◌≡◌, map, take}
use Rattle.serde_json.specs.View.{view}
use Rattle.epx_compare.specs.ComparisonLines.{place_data}
use Rattle.epx_compare.specs.inner.NumberedVersions.{place_at}
use Rattle.epx_compare.proofs.differences.group_value.Given as goal

abbrev pub invariant-loop-index : goal.invariant-loop-index
invariant-loop-index l = map view l.places.items
    ≡ map place_data (map (place_at l.rows) (take l.index-index l.indices))

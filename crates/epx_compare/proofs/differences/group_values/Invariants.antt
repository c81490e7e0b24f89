use Rattle.std.proofs.Common.{◌≡◌, map, take}
use Rattle.serde_json.specs.View.{view}
use Rattle.epx_rows.specs.between.Rows.{row_of}
use Rattle.epx_compare.specs.ComparisonLines.{group_data}
use Rattle.epx_compare.specs.inner.NumberedVersions.{place_at}
use Rattle.epx_compare.proofs.differences.group_values.Given as goal

abbrev pub invariant-loop-number : goal.invariant-loop-number
invariant-loop-number l = map view l.groups.items
    ≡ map (λ v. group_data (map (place_at l.rows) (row_of l.lines v)))
    (take l.number-index l.numbers)

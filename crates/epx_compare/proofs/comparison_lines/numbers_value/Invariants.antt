use Rattle.std.proofs.Common.{◌≡◌, ◌∷◌, map, take}
use Rattle.serde_json.specs.Data.{string}
use Rattle.serde_json.specs.View.{view}
use Rattle.epx_report.specs.ReportLines.{data_of_number}
use Rattle.epx_compare.proofs.comparison_lines.numbers_value.Given as goal

abbrev pub invariant-loop-number : goal.invariant-loop-number
invariant-loop-number l = map view l.parts.items
    ≡ string l.name ∷ map data_of_number (take l.number-index l.numbers)

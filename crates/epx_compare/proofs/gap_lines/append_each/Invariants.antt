use Rattle.std.proofs.Common.{◌≡◌, ◌++◌, flat_map, take}
use Rattle.epx_report.specs.ReportLines.{line_of}
use Rattle.epx_compare.specs.ComparisonLines.{lacks_data}
use Rattle.epx_compare.proofs.gap_lines.append_each.Given as goal

abbrev pub invariant-loop-gap : goal.invariant-loop-gap
invariant-loop-gap l = l.text.items ≡ l.fn.text.items
    ++ flat_map (λ gap. line_of (lacks_data l.log gap)) (take l.gap-index l.gaps)

use Rattle.std.proofs.Common.{◌≡◌, ◌++◌, flat_map, take}
use Rattle.epx_report.specs.ReportLines.{line_of}
use Rattle.epx_compare.specs.ComparisonLines.{missing_count_data}
use Rattle.epx_compare.proofs.missing.append_counts.Given as goal

abbrev pub invariant-loop-i : goal.invariant-loop-i
invariant-loop-i l = l.text.items ≡ l.initial.text.items
    ++ flat_map (λ e. line_of (missing_count_data e.0 e.1)) (take l.i l.counts.entries)

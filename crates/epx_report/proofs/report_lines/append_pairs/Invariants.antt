use Rattle.std.proofs.Common.{◌≡◌, ◌++◌, flat_map, map, drop}
use Rattle.epx_report.specs.ReportLines.{store_line}
use Rattle.epx_report.proofs.report_lines.append_pairs.Given as goal

abbrev pub invariant-loop-key : goal.invariant-loop-key
invariant-loop-key l =
    l.text.items ++ flat_map store_line (map (λ p. (p.0.now, p.1)) (drop l.key-index l.pairs))
    ≡ l.fn.text.items ++ flat_map store_line (map (λ p. (p.0.now, p.1)) l.fn.pairs)

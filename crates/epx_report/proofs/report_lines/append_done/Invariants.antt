use Rattle.std.proofs.Common.{◌≡◌, ◌++◌, flat_map, drop}
use Rattle.epx_report.specs.ReportLines.{done_line}
use Rattle.epx_report.proofs.report_lines.append_done.Given as goal

abbrev pub invariant-loop-id : goal.invariant-loop-id
invariant-loop-id l = l.text.items ++ flat_map done_line (drop l.id-index l.done)
    ≡ l.fn.text.items ++ flat_map done_line l.fn.done

use Rattle.std.proofs.Common.{◌≡◌, ◌++◌, flat_map, zip}
use Rattle.epx_report.specs.ReportLines.{reply_line}
use Rattle.epx_report.proofs.report_lines.append_replies.Given as goal

abbrev pub invariant-loop-id : goal.invariant-loop-id
invariant-loop-id l =
    l.text.items ++ flat_map reply_line (zip l.id-iterator.a.rest.now l.id-iterator.b.rest.now)
    ≡ l.fn.text.items ++ flat_map reply_line (zip l.fn.ids l.fn.replies)

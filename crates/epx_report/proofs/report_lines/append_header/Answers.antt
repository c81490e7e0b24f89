use Rattle.std.proofs.Common.{arith}
use Rattle.epx_types.proofs.Common.{common_steps}
use Rattle.epx_report.specs.ReportLines.{header_data}
use Rattle.epx_report.proofs.LineTextLemmas.{OnOk-line_of}
use Rattle.epx_report.proofs.report_lines.append_header.Goals as goal

pub returns : goal.returns
returns c =
    let last = c.u64-3.new.self in
    OnOk-line_of (header_data c.args.executed c.args.waiting c.args.components) last.tokens
    last.before c.args.text.now.items c.end_line.new.text.items c.end_line.result
    (grind (arith, common_steps)) (grind arith) c.end_line.ensures

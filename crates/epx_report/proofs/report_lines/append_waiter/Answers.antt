use Rattle.std.proofs.Common.{refl}
use Rattle.epx_report.specs.ReportLines.{waiting_data}
use Rattle.epx_report.proofs.LineTextLemmas.{OnOk-line_of}
use Rattle.epx_report.proofs.report_lines.append_waiter.Goals as goal

pub returns : goal.returns
returns c =
    let last = c.write_id_parts-2.new.out in
    OnOk-line_of (waiting_data (record { id = c.args.id; missing = c.args.missing })) last.tokens
    last.before c.args.text.now.items c.end_line.new.text.items c.end_line.result
    (rw (
      c.in_ok-write_id_parts-2.ensures.tokens,
      c.in_ok-write_id_parts.ensures.tokens,
      c.in_ok-out.ensures.tokens,
    ) refl)
    (rw (
      c.in_ok-write_id_parts-2.ensures.before,
      c.in_ok-write_id_parts.ensures.before,
      c.in_ok-out.ensures.before,
    ) refl)
    c.end_line.ensures

use Rattle.std.proofs.Common.{refl}
use Rattle.epx_report.specs.ReportLines.{reply_data}
use Rattle.epx_report.proofs.LineTextLemmas.{OnOk-line_of, reply_line-tokens}
use Rattle.epx_report.proofs.report_lines.append_reply.Goals as goal

pub returns : goal.returns
returns c =
    let last = c.write_reply.new.out in
    OnOk-line_of (reply_data c.args.id c.args.reply.now) last.tokens last.before
    c.args.text.now.items c.end_line.new.text.items c.end_line.result
    (rw (
      c.in_ok-write_reply.ensures.tokens,
      c.in_ok-write_id_parts.ensures.tokens,
      c.in_ok-out.ensures.tokens,
    ) (reply_line-tokens c.args.id c.args.reply.now))
    (rw (
      c.in_ok-write_reply.ensures.before,
      c.in_ok-write_id_parts.ensures.before,
      c.in_ok-out.ensures.before,
    ) refl)
    c.end_line.ensures

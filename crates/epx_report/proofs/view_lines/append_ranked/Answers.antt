use Rattle.std.proofs.Common.{refl}
use Rattle.epx_report.specs.ViewLines.{order_data}
use Rattle.epx_report.proofs.LineTextLemmas.{OnOk-line_of}
use Rattle.epx_report.proofs.view_lines.append_ranked.Goals as goal

pub returns : goal.returns
returns c =
    let last = c.write_id_parts-2.new.out in
    OnOk-line_of (order_data c.args.id c.args.depth c.args.leader) last.tokens last.before
    c.args.text.now.items c.end_line.new.text.items c.end_line.result
    (rw (
      c.in_ok-write_id_parts-2.ensures.tokens,
      c.in_ok-u64.ensures.ok,
      c.in_ok-write_id_parts.ensures.tokens,
      c.in_ok-out.ensures.tokens,
    ) refl)
    (rw (
      c.in_ok-write_id_parts-2.ensures.before,
      c.in_ok-u64.ensures.room.0,
      c.in_ok-write_id_parts.ensures.before,
      c.in_ok-out.ensures.before,
    ) refl)
    c.end_line.ensures

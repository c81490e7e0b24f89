use Rattle.std.proofs.Common.{refl}
use Rattle.epx_report.specs.ViewLines.{level_data}
use Rattle.epx_report.proofs.LineTextLemmas.{OnOk-line_of}
use Rattle.epx_report.proofs.view_lines.append_level.Goals as goal

pub returns : goal.returns
returns c =
    let last = c.u64.new.self in
    OnOk-line_of (level_data c.args.id c.args.level) last.tokens last.before c.args.text.now.items
    c.end_line.new.text.items c.end_line.result
    (rw (
      c.in_ok-u64.ensures.ok,
      c.in_ok-write_id_parts.ensures.tokens,
      c.in_ok-out.ensures.tokens,
    ) refl)
    (rw (
      c.in_ok-u64.ensures.room.0,
      c.in_ok-write_id_parts.ensures.before,
      c.in_ok-out.ensures.before,
    ) refl)
    c.end_line.ensures

use Rattle.std.proofs.Common.{refl}
use Rattle.epx_report.specs.ViewLines.{position_data}
use Rattle.epx_report.proofs.LineTextLemmas.{line_of-alone}
use Rattle.epx_report.proofs.view_lines.position_line.Goals as goal

pub returns : goal.returns
returns c =
    let last = c.u64.new.self in
    line_of-alone (position_data c.args.name.now c.args.position) last.tokens last.before
    c.new-text.result.items c.end_line.new.text.items
    (rw (c.in_ok-u64.ensures.ok, c.in_ok-out.ensures.tokens) refl)
    (rw (c.in_ok-u64.ensures.room.0, c.in_ok-out.ensures.before) refl) c.new-text.ensures.items
    c.in_ok-end_line.ensures

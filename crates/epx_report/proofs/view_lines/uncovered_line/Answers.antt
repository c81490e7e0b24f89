use Rattle.std.proofs.Common.{refl}
use Rattle.epx_report.specs.ViewLines.{uncovered_data}
use Rattle.epx_report.proofs.LineTextLemmas.{line_of-alone}
use Rattle.epx_report.proofs.view_lines.uncovered_line.Goals as goal

pub returns : goal.returns
returns c =
    let last = c.write_id_parts-2.new.out in
    line_of-alone (uncovered_data c.args.pair.0 c.args.pair.1) last.tokens last.before
    c.new-text.result.items c.end_line.new.text.items
    (rw (
      c.in_ok-write_id_parts-2.ensures.tokens,
      c.in_ok-write_id_parts.ensures.tokens,
      c.in_ok-out.ensures.tokens,
    ) refl)
    (rw (
      c.in_ok-write_id_parts-2.ensures.before,
      c.in_ok-write_id_parts.ensures.before,
      c.in_ok-out.ensures.before,
    ) refl)
    c.new-text.ensures.items c.in_ok-end_line.ensures

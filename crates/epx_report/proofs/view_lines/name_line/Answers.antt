use Rattle.std.proofs.Common.{refl, ◌∷◌, []}
use Rattle.serde_json.specs.Data as value
use Rattle.epx_report.proofs.LineTextLemmas.{line_of-alone}
use Rattle.epx_report.proofs.view_lines.name_line.Goals as goal

pub returns : goal.returns
returns c =
    let last = c.in_ok-out.out in
    line_of-alone (value.string c.args.name.now ∷ []) last.tokens last.before
    c.new-text.result.items
    c.end_line.new.text.items (rw (c.in_ok-out.ensures.tokens) refl)
    (rw (c.in_ok-out.ensures.before) refl) c.new-text.ensures.items c.in_ok-end_line.ensures

use Rattle.std.proofs.Common.{◌++◌, ◌<◌, ℕ, List, flat_map, map, length, ap, ◌∙◌, arith}
use Rattle.epx_types.proofs.Common.{nat_tests}
use Rattle.epx_neighbours.proofs.RowLineLemmas.{row_line, row_line-pairs_text}
use Rattle.epx_neighbours.proofs.uncovered_lines.rows_text.Goals as goal

pub returns : goal.returns
returns c =
    let rows = c.args.rows.now in
    let keys = map (λ k. k.now) c.args.keys.now in
    let some : 0 < length rows = grind (arith, nat_tests) in
    c.in_ok-append_rows.ensures
    ∙ (ap (λ (text : List ℕ). text ++ flat_map (row_line keys) rows) c.new-text.ensures.items
    ∙ row_line-pairs_text keys rows some)

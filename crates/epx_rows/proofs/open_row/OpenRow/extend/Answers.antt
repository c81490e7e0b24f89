use Rattle.std.proofs.Common.{◌++◌, drop, ap, ◌∙◌}
use Rattle.epx_types.proofs.Common.{drop-append-le}
use Rattle.epx_rows.specs.between.OpenRows.{OpenRowView}
use Rattle.epx_rows.specs.RowEnds.{rows_from}
use Rattle.epx_rows.proofs.RowLemmas.{rows_from-more_numbers}
use Rattle.epx_rows.proofs.open_row.OpenRow.extend.Goals as goal

pub returns : goal.returns
returns c =
    let start = c.self.inside.start in
    let ends = c.self.inside.ends.items in
    let numbers = c.self.inside.numbers.items in
    let more = c.args.numbers.now in
    let rows = ap (rows_from 0 ends) c.in_ok-extend_from_slice.ensures.items
    ∙ rows_from-more_numbers 0 ends start numbers more c.self.invariant.0 c.self.invariant.1
    ∙ ap (λ (v : OpenRowView). v.rows) c.self.view_is in
    let row = ap (drop start) c.in_ok-extend_from_slice.ensures.items
    ∙ drop-append-le start numbers more c.self.invariant.1
    ∙ ap (λ (v : OpenRowView). v.row ++ more) c.self.view_is in
    λ i. record { rows = rows i; row = row i }

use Rattle.std.proofs.Common.{◌++◌, ◌∷◌, ◌<◌, [], ℕ, List, map, length, get_or, ap, ◌∙◌}
use Rattle.serde_json.specs.Data.{Data}
use Rattle.serde_json.specs.Written.{compact_text}
use Rattle.epx_report.specs.ReportLines.{array_of, line_feed}
use Rattle.epx_types.proofs.Common.{All-get_or, get_or_default}
use Rattle.epx_neighbours.specs.UncoveredLines.{pair_data}
use Rattle.epx_neighbours.specs.declared.uncovered_row.UncoveredRow.{UncoveredRow}
use Rattle.epx_neighbours.proofs.RowLineLemmas.{now-at, row_line, row_line-step}
use Rattle.epx_neighbours.proofs.uncovered_lines.append_rows.Goals as goal

pub loop-row-preserved : goal.loop-row-preserved
loop-row-preserved c =
    let rows = c.args.rows.now in
    let keys = map (λ k. k.now) c.args.keys.now in
    let i = c.loop-row.row-index in
    let old = c.loop-row.text.items in
    let none : UncoveredRow = record {
      before = record { replica = 0; number = 0 };
      after = record { replica = 0; number = 0 };
      key = 0;
    } in
    let r = get_or rows i none in
    let within : r.key < length c.args.keys.now =
    All-get_or (λ (s : UncoveredRow). s.key < length c.args.keys.now) rows i none
    c.loop-row-test.true c.requires in
    let key = now-at c.args.keys.now r.key c.index-keys-row.result within c.index-keys-row.is in
    c.in_ok-append_line.ensures
    ∙ (ap (λ (d : Data). old ++ (compact_text d ++ line_feed ∷ []))
    (c.in_ok-pair_value.ensures.data ∙ ap (λ (k : List ℕ). array_of
    (pair_data (record { before = r.before; after = r.after; key = k }))) key)
    ∙ (ap (λ (text : List ℕ). text ++ row_line keys r) c.loop-row.invariant
    ∙ row_line-step keys c.args.text.now.items rows i r c.loop-row-test.true
    (get_or_default rows i none r c.loop-row-test.true)))

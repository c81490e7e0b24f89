use Rattle.std.proofs.Common.{◌≡◌, ◌∷◌, [], ◌∙◌, codes, Some, arith}
use Rattle.epx_types.proofs.Common.{common_steps}
use Rattle.json.specs.Token.{begin_array, string}
use Rattle.epx_report.specs.inner.LineTokens.{value_token}
use Rattle.epx_report.specs.ReportLines.{store_data}
use Rattle.epx_report.proofs.LineTextLemmas.{OnOk-line_of, store_line-tokens}
use Rattle.epx_report.proofs.report_lines.append_store_pair.Goals as goal

pub returns : goal.returns
returns c =
    let last = c.i64.new.self in
    let key = c.args.key.now in
    let value = c.args.value.now in
    let same : last.tokens ≡ begin_array ∷ string (codes "store") ∷ string key
    ∷ value_token (Some value) ∷ [] = grind (arith, common_steps) in
    OnOk-line_of (store_data (key, value)) last.tokens last.before c.args.text.now.items
    c.end_line.new.text.items c.end_line.result (same ∙ store_line-tokens key value) (grind arith)
    c.end_line.ensures

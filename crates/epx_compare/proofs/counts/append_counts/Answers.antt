use Rattle.std.proofs.Common.{◌≡◌, ◌∙◌, ◌++◌, ◌<◌, ℕ, ◌==◌, List, length, count_by, ap, sym}
use Rattle.std.proofs.Common.{append_assoc, arith}
use Rattle.epx_types.proofs.Common.{get_or_default}
use Rattle.epx_report.specs.ReportLines.{line_of}
use Rattle.epx_compare.specs.ComparisonLines.{log_data}
use Rattle.epx_compare.specs.Comparisons.{counts_text}
use Rattle.epx_versions.specs.LineVersions.{versions_of}
use Rattle.epx_compare.specs.LogCounts.{lines_in, bad_lines_in}
use Rattle.epx_compare.proofs.LogTextLemmas.{for_logs-snoc, count_by-rows, count_by-bad_lines}
use Rattle.epx_compare.proofs.counts.append_counts.Goals as goal

pub loop-log-preserved : goal.loop-log-preserved
loop-log-preserved c lines bad noted =
    let log = c.loop-log.log in
    let inside = c.loop-log-test.true in
    let part : ℕ → List ℕ = λ n. line_of (log_data n (lines_in lines n) (bad_lines_in bad n)) in
    let own_lines = c.index.result.now in
    let own_bad = c.index-in-loop-log.result.now in
    let lines_room : log < length c.in_ok-lines.lines.items =
    omega (arith, c.in_ok-lines.ensures.len, inside) in
    let bad_room : log < length c.in_ok-bad.bad.items =
    omega (arith, c.in_ok-bad.ensures.len, inside) in
    let rows : own_lines ≡ lines_in lines log = c.index.ensures
    ∙ (get_or_default c.in_ok-lines.lines.items log own_lines 0 lines_room
    ∙ (c.in_ok-lines.ensures.each log inside
    ∙ (ap (count_by (λ r. r.place.log == log)) c.deref.ensures.value
    ∙ count_by-rows (versions_of lines) log c.args.noted.now.rows.items lines noted.rows))) in
    let bads : own_bad ≡ bad_lines_in bad log = c.index-in-loop-log.ensures
    ∙ (get_or_default c.in_ok-bad.bad.items log own_bad 0 bad_room
    ∙ (c.in_ok-bad.ensures.each log inside
    ∙ (ap (count_by (λ b. b.place.log == log)) c.deref-2.ensures.value
    ∙ (count_by-bad_lines log c.args.noted.now.bad.items
    ∙ ap (λ bs. bad_lines_in bs log) noted.bad_lines)))) in
    c.in_ok-append_log.ensures
    ∙ (ap (λ t. t ++ line_of (log_data log own_lines own_bad))
    (c.loop-log.invariant lines bad noted)
    ∙ (append_assoc c.args.text.now.items (counts_text log lines bad) _
    ∙ ((λ i. c.args.text.now.items ++ (counts_text log lines bad
    ++ line_of (log_data log (rows i) (bads i))))
    ∙ ap (λ t. c.args.text.now.items ++ t) (sym (for_logs-snoc log part)))))

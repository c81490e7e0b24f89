use Rattle.std.proofs.Common.{◌≡◌, ◌∙◌, ◌++◌, ◌<◌, ℕ, List, flat_map, ap, sym, subst, append_assoc}
use Rattle.std.proofs.Common.{arith}
use Rattle.epx_types.proofs.Common.{max_logs}
use Rattle.epx_types.specs.declared.id.Id.{Id}
use Rattle.epx_report.specs.ReportLines.{line_of}
use Rattle.epx_compare.specs.ComparisonLines.{lacks_data}
use Rattle.epx_compare.specs.Comparisons.{gaps_text}
use Rattle.epx_compare.specs.Gaps.{Gap, gaps_of, has_line}
use Rattle.epx_compare.specs.declared.log_set.LogSet.{LogSet}
use Rattle.epx_compare.specs.inner.LogMarks.{IsMarking}
use Rattle.epx_compare.proofs.LogTextLemmas.{for_logs-snoc}
use Rattle.epx_compare.proofs.gap_lines.append_gaps.Goals as goal

pub loop-log-preserved : goal.loop-log-preserved
loop-log-preserved c lines bad catalog =
    let log = c.loop-log.log in
    let ids = c.args.catalog.now.ids in
    let few : log < max_logs = omega (arith, c.loop-log-test.true, c.requires.logs) in
    let gap_lines : ℕ → List Gap → List ℕ = λ n gaps.
    flat_map (λ g. line_of (lacks_data n g)) gaps in
    let part : ℕ → List ℕ = λ n. gap_lines n (gaps_of (has_line lines n) ids) in
    let P : List Id → List LogSet → Type 0 = λ xs marks.
    IsMarking (has_line lines log) log xs marks in
    let marking : P c.ids.result.now c.deref.result.now =
    subst (λ xs. P xs c.deref.result.now) (sym c.ids.ensures.ids)
    (subst (P ids) (sym c.deref.ensures.value)
    (c.in_ok-marks.ensures.each lines bad catalog log few)) in
    let gaps : c.deref-in-loop-log.result.now ≡ gaps_of (has_line lines log) ids =
    c.deref-in-loop-log.ensures.value ∙ (c.in_ok-gaps.ensures (has_line lines log) marking
    ∙ ap (gaps_of (has_line lines log)) c.ids.ensures.ids) in
    c.in_ok-append_each.ensures
    ∙ (ap (λ t. t ++ gap_lines log c.deref-in-loop-log.result.now)
    (c.loop-log.invariant lines bad catalog)
    ∙ (append_assoc c.args.text.now.items (gaps_text log lines ids) _
    ∙ (ap (λ gs. c.args.text.now.items ++ (gaps_text log lines ids ++ gap_lines log gs)) gaps
    ∙ ap (λ t. c.args.text.now.items ++ t) (sym (for_logs-snoc log part)))))

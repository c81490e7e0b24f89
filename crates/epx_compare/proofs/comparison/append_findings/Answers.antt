use Rattle.std.proofs.Common.{◌≡◌, ◌∙◌, ◌++◌, List, ℕ, flat_map, map, ap, append_assoc}
use Rattle.epx_types.proofs.Common.{on_ok_weaker}
use Rattle.epx_compare.specs.Comparisons.{bad_text, difference_text, gaps_text}
use Rattle.epx_versions.specs.between.NotedRows.{bad_line_at}
use Rattle.epx_compare.proofs.comparison.append_findings.Goals as goal

-- three parts, one appended after the other
parts : (t₀ t₁ t₂ t₃ a b c : List ℕ) → t₁ ≡ t₀ ++ a → t₂ ≡ t₁ ++ b → t₃ ≡ t₂ ++ c
    → t₃ ≡ t₀ ++ (a ++ (b ++ c))
parts t₀ t₁ t₂ t₃ a b c p q r =
    let two : t₂ ≡ t₀ ++ (a ++ b) = q ∙ (ap (λ x. x ++ b) p ∙ append_assoc t₀ a b) in
    r ∙ (ap (λ x. x ++ c) two ∙ (append_assoc t₀ (a ++ b) c
    ∙ ap (λ x. t₀ ++ x) (append_assoc a b c)))

pub returns : goal.returns
returns c = on_ok_weaker c.append_gaps.result (λ gaps lines bad catalog.
    let ids = c.args.catalog.now.ids in
    let old = c.args.text.now.items in
    let bads : c.append_bad_lines.new.text.items ≡ old ++ bad_text bad =
    c.in_ok-append_bad_lines.ensures ∙ ap (λ bs. old ++ bad_text bs)
    (ap (map bad_line_at) c.deref.ensures.value ∙ catalog.noted.bad_lines) in
    parts old c.append_bad_lines.new.text.items c.append_differences.new.text.items
    c.append_gaps.new.text.items (bad_text bad) (flat_map (difference_text lines) ids)
    (gaps_text c.args.logs lines ids) bads
    (c.in_ok-append_differences.ensures lines bad catalog) (gaps lines bad catalog))
    c.append_gaps.ensures

use Rattle.std.proofs.Common.{◌≡◌, ◌≢◌, ◌↔◌, ◌∙◌, ◌++◌, ◌∷◌, List, [], ℕ, true, not, length, ap}
use Rattle.std.proofs.Common.{append_assoc, inl, inr, arith}
use Rattle.epx_types.proofs.Common.{eqb_tells, length-append}
use Rattle.std.proofs.Math.Dec.{eqb}
use Rattle.epx_compare.specs.Comparisons.{counts_text, findings_text, missing_counts_text}
use Rattle.epx_compare.proofs.comparison.comparison_of.Goals as goal

-- a part is not empty where the text got longer by it
grown : (before part : List ℕ) (n m : ℕ) → n ≡ length (before ++ part) → m ≡ length before
    → (not (eqb n m) ≡ true) ↔ (part ≢ [])
grown before [] n m is was = elim (eqb_tells n m) [
  | inl same ↦ (λ other. absurd (cc (other, same.0)), λ some. absurd (some cc))
  | inr other ↦ absurd (other.1 (omega (arith, is, was, length-append before [])))
]
grown before (x ∷ part) n m is was = elim (eqb_tells n m) [
  | inl same ↦ absurd (omega (arith, same.1, is, was, length-append before (x ∷ part)))
  | inr other ↦ (λ _ none. cc none, λ _. cc (other.0))
]

pub returns : goal.returns
returns c lines bad catalog =
    let ids = c.args.catalog.now.ids in
    let logs = c.args.logs in
    let last = c.in_ok-append_all_missing.ensures lines bad catalog in
    let counts : c.append_counts.new.text.items ≡ counts_text logs lines bad =
    c.in_ok-append_counts.ensures lines bad catalog.noted
    ∙ ap (λ t. t ++ counts_text logs lines bad) c.new-text.ensures.items in
    let found = c.in_ok-append_findings.ensures lines bad catalog in
    let wrong = findings_text logs lines bad ids in
    let now : c.len.result ≡ length c.append_findings.new.text.items = omega arith in
    let start : c.len-start.result ≡ length c.append_counts.new.text.items = omega arith in
    record {
      missing = last.0;
      open_ends = last.1;
      printed = last.2 ∙ (ap (λ t. t ++ missing_counts_text lines ids last.0)
          (found ∙ ap (λ t. t ++ wrong) counts)
          ∙ append_assoc (counts_text logs lines bad) wrong (missing_counts_text lines ids last.0));
      found = grown c.append_counts.new.text.items wrong _ _
          (now ∙ ap length found) start;
    }

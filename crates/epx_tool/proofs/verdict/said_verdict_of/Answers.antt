use Rattle.std.proofs.Common.{◌≡◌, ◌≢◌, ◌∙◌, ◌++◌, List, ap₂, inl, subst, sym, true≢false}
use Rattle.epx_types.specs.declared.id.Id.{Id}
use Rattle.epx_report.specs.ReportReadings.{replied_ids}
use Rattle.epx_report.specs.ViewLines.{lawful_line}
use Rattle.epx_tool.specs.Verdicts.{IsPrefixVerdict}
use Rattle.epx_tool.proofs.VerdictLemmas.{lawful_prefix-if_none}
use Rattle.epx_tool.proofs.verdict.said_verdict_of.Goals as goal

pub returns-clause-text : goal.returns-clause-text
returns-clause-text g c =
    let m = c.args.merged.now in
    let ids = replied_ids c.args.said.now.replies.items in
    let said = c.in_ok-verdict.verdict.text.items in
    let listed : c.deref.result.now ≡ ids = c.deref.ensures.value ∙ c.in_ok-ids.ensures in
    let verdict : IsPrefixVerdict m ids said =
    subst (λ (xs : List Id). IsPrefixVerdict m xs said) listed c.in_ok-verdict.ensures.text in
    let none : ¬ (said ≢ lawful_line) = λ other.
    true≢false (sym (c.in_ok-verdict.ensures.found.1 other) ∙ c.if-verdict.false) in
    let good = lawful_prefix-if_none m ids said verdict none in
    let more = c.deref-2.ensures.value ∙ c.in_ok-differences_text.ensures in
    rw c.new.ensures.text (inl (
      good.0,
      c.in_ok-extend_from_slice.ensures.items ∙ ap₂ (λ xs ys. xs ++ ys) good.1 more,
    ))

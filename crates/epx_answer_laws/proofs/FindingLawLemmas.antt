-- An audit finds something exactly if the logs are not covered, a check exactly if the list is not
-- lawful.
use Rattle.std.proofs.Common.{◌≡◌, ◌≢◌, ◌↔◌, ℕ, Bool, true, List, subst, inl, inr}
use Rattle.epx_types.proofs.Common.{Instance, IsCovered}
use Rattle.epx_audit.proofs.UniquePairLemmas.{IsCovered-not_if_uncovered}
use Rattle.epx_merge.proofs.UniquenessLemmas.{IsAccepted-is_unique}
use Rattle.epx_report.specs.ViewLines.{covered_line, lawful_line}
use Rattle.epx_tool.specs.AuditText.{IsAuditText}
use Rattle.epx_answer_laws.specs.FindingLaws.{AuditFindsNotCovered, CheckFindsNotLawful}
use Rattle.epx_tool.specs.Verdicts.{IsVerdict, IsPrefixVerdict}
use Rattle.epx_tool.proofs.CheckLemmas.{verdict-of_logs}
use Rattle.epx_tool.proofs.CoveredTextLemmas.{covered-from_text}
use Rattle.epx_tool.proofs.VerdictLemmas.{lawful-from_verdict, lawful_line-from_lawful}
use Rattle.epx_tool.proofs.VerdictLemmas.{lawful_prefix-from_verdict, lawful_line-from_prefix}

-- `line` is the text of what is good; an answer finds something exactly if its text is another
found_iff_not_good : {Good : Type 0} (Is : List ℕ → Type 0) (line : List ℕ)
    → (Is line → Good) → ((text : List ℕ) → Is text → Good → text ≡ line)
    → (found : Bool) (text : List ℕ) → Is text → (found ≡ true) ↔ (text ≢ line)
    → (found ≡ true) ↔ (¬ Good)
found_iff_not_good Is line good line_of found text is finds = (
  λ e good. finds.0 e (line_of text is good),
  λ bad. finds.1 (λ same. bad (good (subst Is same is))),
)

covered_line-from_covered : (m : List Instance) (text : List ℕ) → IsAuditText m text → IsCovered m
    → text ≡ covered_line
covered_line-from_covered m text (inl a) covered = a.1
covered_line-from_covered m text (inr a) covered =
    absurd (IsCovered-not_if_uncovered m a.0 a.1 a.2.uncovered covered)

pub AuditFindsNotCovered-holds : AuditFindsNotCovered
AuditFindsNotCovered-holds logs m accepted found text said =
    let same = IsAccepted-is_unique logs said.0 m said.1 accepted in
    found_iff_not_good (IsAuditText m) covered_line (covered-from_text m)
    (covered_line-from_covered m) found text
    (subst (λ (n : List Instance). IsAuditText n text) same said.2.0) said.2.1

pub CheckFindsNotLawful-holds : CheckFindsNotLawful
CheckFindsNotLawful-holds = record {
  order = λ list logs ids m is accepted found text said. found_iff_not_good (IsVerdict m ids)
      lawful_line (lawful-from_verdict m ids) (lawful_line-from_lawful m ids) found text
      (verdict-of_logs IsVerdict list ids is logs m accepted text
      (said.1.0, said.1.1, said.1.2.0))
      said.1.2.1;
  prefix = λ list logs ids m is accepted found text said. found_iff_not_good
      (IsPrefixVerdict m ids) lawful_line (lawful_prefix-from_verdict m ids)
      (lawful_line-from_prefix m ids) found text
      (verdict-of_logs IsPrefixVerdict list ids is logs m accepted text
      (said.1.0, said.1.1, said.1.2.0))
      said.1.2.1;
}

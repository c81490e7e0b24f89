-- The text of an audit says that logs are covered exactly if they are.
use Rattle.std.proofs.Common.{◌≡◌, ℕ, List, Ok, subst, inl, inr}
use Rattle.json.specs.Print.{escape_byte}
use Rattle.epx_types.proofs.Common.{Instance, IsCovered}
use Rattle.epx_types.specs.declared.id.Id.{Id}
use Rattle.epx_merge.specs.Acceptance.{IsAccepted}
use Rattle.epx_merge.proofs.UniquenessLemmas.{IsAccepted-is_unique}
use Rattle.epx_report.specs.ViewLines.{covered_line, uncovered_line}
use Rattle.epx_tool.specs.declared.ask.Ask.TheVariants.{Audit}
use Rattle.epx_tool.specs.AuditText.{IsAuditText}
use Rattle.epx_tool.specs.TaskAnswers.{AnswersView}

covered_line-apart : (x y : Id) → ¬ (covered_line ≡ uncovered_line x y)
unfolding escape_byte
covered_line-apart x y e = cc e

pub covered-from_text : (m : List Instance) → IsAuditText m covered_line → IsCovered m
covered-from_text m (inl covered) = covered.0
covered-from_text m (inr pair) = absurd (covered_line-apart pair.0 pair.1 pair.3)

-- logs whose audit says so are covered
pub IsCovered-if_reported : (logs : List (List ℕ)) (m : List Instance) → IsAccepted logs m
    → AnswersView Audit logs (Ok covered_line) → IsCovered m
IsCovered-if_reported logs m accepted said =
    let same : said.0 ≡ m = IsAccepted-is_unique logs said.0 m said.1 accepted in
    subst IsCovered same (covered-from_text said.0 said.2)

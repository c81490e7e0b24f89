-- A list that is reported as a lawful prefix is one. If the logs are reported as covered, it
-- replies as the report says.
use Rattle.std.proofs.Common.{ℕ, List, Ok, Err, refl, inl, inr}
use Rattle.std.specs.FinMap as contents
use Rattle.epx_types.proofs.Common.{Instance, ranked_ids, IsLawfulPrefix, IsExecutionOrder-IsLawful}
use Rattle.epx_types.specs.declared.id.Id.{Id}
use Rattle.epx_merge.specs.Acceptance.{IsAccepted}
use Rattle.epx_report.specs.Lists.{IsList}
use Rattle.epx_report.specs.ViewLines.{lawful_line}
use Rattle.epx_ranking.specs.OrderFaults.{HasAllReady}
use Rattle.epx_ranking.proofs.PrefixLemmas.{IsLawfulPrefix-from_lawful, IsLawful-from_prefix}
use Rattle.epx_ranking.proofs.PrefixLemmas.{IsOrderFault-from_prefix, IsPrefixFault-from_order}
use Rattle.epx_names.specs.declared.task.Task.TheVariants.{CheckPrefix}
use Rattle.epx_answer_laws.specs.CheckLaws.{LawfulTextMeansPrefix, LawfulPrefixRepliesAlike}
use Rattle.epx_answer_laws.specs.CheckLaws.{WholeListsAreAnsweredAlike}
use Rattle.epx_tool.specs.TaskAnswers.{AnswersTask}
use Rattle.epx_tool.specs.Verdicts.{IsVerdict, IsPrefixVerdict}
use Rattle.epx_tool.proofs.CheckLemmas.{verdict-of_logs}
use Rattle.epx_tool.proofs.CoveredTextLemmas.{IsCovered-if_reported}
use Rattle.epx_tool.proofs.VerdictLemmas.{lawful_prefix-from_verdict}
use Rattle.epx_laws.proofs.PrefixLemmas.{reply-prefix}

-- ---- what the text means

pub IsLawfulPrefix-from_answer : (list : List ℕ) (logs : List (List ℕ)) (ids : List Id)
    (m : List Instance) → IsList list ids → IsAccepted logs m
    → AnswersTask CheckPrefix list logs (Ok lawful_line) → IsLawfulPrefix m ids
IsLawfulPrefix-from_answer list logs ids m is accepted said =
    lawful_prefix-from_verdict m ids
    (verdict-of_logs IsPrefixVerdict list ids is logs m accepted lawful_line said.1)

pub LawfulTextMeansPrefix-holds : LawfulTextMeansPrefix
LawfulTextMeansPrefix-holds list logs ids m short is accepted = (
  IsLawfulPrefix-from_answer list logs ids m is accepted,
  λ begins. (short, (m, accepted, (ids, is, inl (begins, refl)))),
)

-- ---- replies

pub LawfulPrefixRepliesAlike-holds : LawfulPrefixRepliesAlike
LawfulPrefixRepliesAlike-holds list logs said audited ids m is accepted order ordered i j x p q =
    let rising = accepted.committed.rising in
    let covered = IsCovered-if_reported logs m accepted audited in
    let begins = IsLawfulPrefix-from_answer list logs ids m is accepted said in
    let of_order = IsExecutionOrder-IsLawful m order ordered in
    reply-prefix m rising covered ids begins.0 (ranked_ids order) begins.1 of_order
    contents.empty i j x p q

-- ---- lists of all ready instances

module _ (m : List Instance) (ids : List Id) (all : HasAllReady m ids) where
  verdict-from_prefix : (text : List ℕ) → IsPrefixVerdict m ids text → IsVerdict m ids text
  verdict-from_prefix text (inl a) = inl (IsLawful-from_prefix m ids all a.0, a.1)
  verdict-from_prefix text (inr a) = inr (a.0, a.1, IsOrderFault-from_prefix m ids all a.0 a.2, a.3)

  prefix-from_verdict : (text : List ℕ) → IsVerdict m ids text → IsPrefixVerdict m ids text
  prefix-from_verdict text (inl a) = inl (IsLawfulPrefix-from_lawful m ids a.0, a.1)
  prefix-from_verdict text (inr a) = inr (a.0, a.1, IsPrefixFault-from_order m ids all a.0 a.2, a.3)

pub WholeListsAreAnsweredAlike-holds : WholeListsAreAnsweredAlike
WholeListsAreAnsweredAlike-holds list logs ids m is accepted all (Ok text) =
    let from = verdict-of_logs IsPrefixVerdict list ids is logs m accepted text in
    let back = verdict-of_logs IsVerdict list ids is logs m accepted text in (
      λ said. (
        said.0,
        (m, accepted, (ids, is, verdict-from_prefix m ids all text (from said.1))),
      ),
      λ said. (
        said.0,
        (m, accepted, (ids, is, prefix-from_verdict m ids all text (back said.1))),
      ),
    )
WholeListsAreAnsweredAlike-holds list logs ids m is accepted all (Err fault) = (λ h. h, λ h. h)

-- Each answer is a base, and resumed runs have the replies and the store of the whole.
use Rattle.std.proofs.Common.{◌≡◌, ◌⊎◌, ◌↔◌, ℕ, zero, suc, List, [], ◌∷◌, Contains, Some, slice_get}
use Rattle.std.proofs.Common.{zip, inl, inr, sym, ap, ap₂, ◌∙◌, subst}
use Rattle.std.specs.FinMap as contents
use Rattle.epx_types.proofs.Common.{IsRising, Contents, Instance, ids_of, commands_in, remaining}
use Rattle.epx_types.proofs.Common.{execute, ranked_ids, IsLawful, IsReady, IsSound, HasRemaining}
use Rattle.epx_types.proofs.Common.{remaining-nil, IsExecutionOrder-IsLawful, Contains-nil}
use Rattle.epx_types.proofs.Common.{Contains-head, Contains-cons, Contains-cons_cases}
use Rattle.epx_types.proofs.Common.{IsRising-is_unique}
use Rattle.epx_types.proofs.Common.{IsSound-nothing_done, IsSound-resumed, IsSound-final}
use Rattle.epx_types.proofs.Common.{reply-resumed}
use Rattle.epx_types.specs.declared.id.Id.{Id}
use Rattle.epx_merge.specs.Acceptance.{IsAccepted}
use Rattle.epx_merge.proofs.UniquenessLemmas.{IsAccepted-is_unique}
use Rattle.epx_report.specs.Bases.{IsBase}
use Rattle.epx_report.proofs.BaseRangeLemmas.{FitsBase, FitsBase-from_IsBase, FitsContents-empty}
use Rattle.epx_report.proofs.BaseLemmas.{BaseSaysOneThing-holds}
use Rattle.epx_report.proofs.ReportBaseLemmas.{DoneAfterExists-holds}
use Rattle.epx_tool.specs.ResumedReport.{IsReportAfter}
use Rattle.epx_tool.specs.Resumption.{IsResumedText}
use Rattle.epx_tool.specs.ResumableAnswers.{HasBaseAfter, AnswerIsBase, ResumptionIsBase}
use Rattle.epx_tool.specs.ResumableAnswers.{IsSoundBase, ReportOfAPartIsSound, ResumedReportIsSound}
use Rattle.epx_tool.specs.ResumableAnswers.{ResumedReportRepeatsTheWhole, LastReportIsTheWhole}
use Rattle.epx_tool.proofs.AcceptedLogLemmas.{length-accepted_within}
use Rattle.epx_tool.proofs.ReportBaseLemmas.{IsReportAfter-nil, IsBase-report, written}
use Rattle.epx_tool.proofs.ReportBaseLemmas.{replied_ids-written}
use Rattle.epx_tool.proofs.ReportRangeLemmas.{FitsInstance-accepted, FitsReportData-reported}

-- ---- each answer is a base

report_leaves : (logs : List (List ℕ)) (m : List Instance) → IsAccepted logs m
    → (done : List Id) (stored : Contents) → FitsBase done stored → IsRising done
    → (text : List ℕ) → IsReportAfter done stored m text → HasBaseAfter done stored m text
report_leaves logs m accepted done stored fits rising text p =
    let few = length-accepted_within logs m accepted in
    let fit = FitsReportData-reported done stored m text p (FitsInstance-accepted logs m accepted)
    fits few in
    let now = DoneAfterExists-holds (written done stored m text p) rising in
    let each : (x : Id) → Contains now.0 x ↔ Contains done x ⊎ Contains (ranked_ids p.order) x =
    λ x. subst (λ (xs : List Id). Contains now.0 x ↔ Contains done x ⊎ Contains xs x)
    (replied_ids-written done stored m text p) (now.1.each x) in
    record {
      order = p.order;
      now = now.0;
      ordered = p.ordered;
      done_now = record { rising = now.1.rising; each = each };
      base = IsBase-report done stored m text p rising fit now.0 now.1.rising each;
    }

pub AnswerIsBase-holds : AnswerIsBase
AnswerIsBase-holds logs text answer m accepted =
    let same : answer.0 ≡ m = IsAccepted-is_unique logs answer.0 m answer.1 accepted in
    let none : FitsBase [] contents.empty =
    record { done = λ x c. absurd (Contains-nil x c); stored = FitsContents-empty } in
    let report = IsReportAfter-nil answer.0 text answer.2 in
    subst (λ (m : List Instance). HasBaseAfter [] contents.empty m text) same
    (report_leaves logs answer.0 answer.1 [] contents.empty none tt text report)

resumed_report : (base : List ℕ) (m : List Instance) (text : List ℕ) → IsResumedText base m text
    → (done : List Id) (stored : Contents) → IsBase base done stored
    → IsReportAfter done stored m text
resumed_report base m text p done stored is =
    let one = BaseSaysOneThing-holds base p.0 done p.1 stored p.2 is in
    subst (λ (s : Contents). IsReportAfter done s m text) one.1
    (subst (λ (d : List Id). IsReportAfter d p.1 m text) one.0 p.3)

pub ResumptionIsBase-holds : ResumptionIsBase
ResumptionIsBase-holds base logs text resumed done stored is m accepted =
    let same : resumed.1.0 ≡ m = IsAccepted-is_unique logs resumed.1.0 m resumed.1.1 accepted in
    let after = subst (λ (m : List Instance). IsResumedText base m text) same resumed.1.2 in
    let report = resumed_report base m text after done stored is in
    report_leaves logs m accepted done stored (FitsBase-from_IsBase base done stored is)
    is.are_done.rising text report

-- ---- the base that an answer leaves is sound

left_is_sound : (m : List Instance) → IsRising (ids_of m) → (done : List Id) (stored : Contents)
    → IsSound m done stored → (rest : List Instance) → HasRemaining m done rest
    → (text : List ℕ) → HasBaseAfter done stored rest text → IsSoundBase m text
left_is_sound m rising done stored sound rest has text left =
    let lawful = IsExecutionOrder-IsLawful (remaining done rest) left.order left.ordered in
    let again = IsSound-resumed m rising done stored sound rest has (ranked_ids left.order) lawful
    left.now left.done_now.each in
    record {
      done = left.now;
      stored = (execute (commands_in (remaining done rest) (ranked_ids left.order)) stored).final;
      base = left.base;
      sound = again;
    }

pub ReportOfAPartIsSound-holds : ReportOfAPartIsSound
ReportOfAPartIsSound-holds m rising logs part accepted within text answer =
    left_is_sound m rising [] contents.empty (IsSound-nothing_done m) part (λ e c none. within e c)
    text (AnswerIsBase-holds logs text answer part accepted)

pub ResumedReportIsSound-holds : ResumedReportIsSound
ResumedReportIsSound-holds m base logs text g resumed =
    let b = g.before in
    let left = ResumptionIsBase-holds base logs text resumed b.done b.stored b.base g.rest
    g.accepted in
    left_is_sound m g.rising b.done b.stored b.sound g.rest g.has text left

-- ---- the replies and the final store of resumed runs

in_zip : {A B : Type 0} (xs : List A) (ys : List B) (p : A × B) → Contains (zip xs ys) p
    → (i : ℕ) × (slice_get xs i ≡ Some p.0) × (slice_get ys i ≡ Some p.1)
in_zip [] ys p c = absurd (Contains-nil p c)
in_zip (x ∷ xs) [] p c = absurd (Contains-nil p c)
in_zip (x ∷ xs) (y ∷ ys) p c =
    elim (Contains-cons_cases (x, y) (zip xs ys) p c) [
      | inl here ↦ (0, ap (λ q. Some q.0) here, ap (λ q. Some q.1) here)
      | inr later ↦ let there = in_zip xs ys p later in (suc there.0, there.1, there.2)
    ]

from_zip : {A B : Type 0} (xs : List A) (ys : List B) (p : A × B) (i : ℕ)
    → slice_get xs i ≡ Some p.0 → slice_get ys i ≡ Some p.1 → Contains (zip xs ys) p
from_zip [] ys p i at is = absurd (cc at)
from_zip (x ∷ xs) [] p i at is = absurd (cc is)
from_zip (x ∷ xs) (y ∷ ys) p zero at is =
    let first : x ≡ p.0 = cc at in
    let second : y ≡ p.1 = cc is in
    subst (Contains ((x, y) ∷ zip xs ys)) (ap₂ (λ a b. (a, b)) first second)
    (Contains-head (x, y) (zip xs ys))
from_zip (x ∷ xs) (y ∷ ys) p (suc i) at is =
    Contains-cons (x, y) (zip xs ys) p (from_zip xs ys p i at is)

pub ResumedReportRepeatsTheWhole-holds : ResumedReportRepeatsTheWhole
ResumedReportRepeatsTheWhole-holds m base logs g covered text resumed whole q =
    let b = g.before in
    let same : resumed.1.0 ≡ g.rest =
    IsAccepted-is_unique logs resumed.1.0 g.rest resumed.1.1 g.accepted in
    let after = subst (λ (m : List Instance). IsResumedText base m text) same resumed.1.2 in
    let p = resumed_report base g.rest text after b.done b.stored b.base in
    let lawful = IsExecutionOrder-IsLawful (remaining b.done g.rest) p.order p.ordered in
    let order = ranked_ids q.order in
    let all = IsExecutionOrder-IsLawful m q.order q.ordered in
    record {
      report = p;
      each = λ r c.
          let at = in_zip (ranked_ids p.order) _ r c in
          let is = reply-resumed m g.rising b.done b.stored b.sound g.rest g.has
          (ranked_ids p.order) lawful covered order all at.0 r.0 at.1 in
          from_zip order _ r is.0 is.1 (sym is.2 ∙ at.2);
    }

pub LastReportIsTheWhole-holds : LastReportIsTheWhole
LastReportIsTheWhole-holds logs m accepted covered text b done whole answer =
    let rising = accepted.committed.rising in
    let w = ReportOfAPartIsSound-holds m rising logs m accepted (λ e c. c) whole answer in
    let left = AnswerIsBase-holds logs whole answer m accepted in
    let final =
    (execute (commands_in (remaining [] m) (ranked_ids left.order)) contents.empty).final in
    let one = BaseSaysOneThing-holds whole left.now w.done final w.stored left.base w.base in
    let lawful : IsLawful m (ranked_ids left.order) =
    subst (λ (l : List Instance). IsLawful l (ranked_ids left.order)) (remaining-nil m)
    (IsExecutionOrder-IsLawful (remaining [] m) left.order left.ordered) in
    let all_done : (x : Id) → IsReady m x → Contains w.done x =
    λ x ready. subst (λ (ids : List Id). Contains ids x) one.0
    ((left.done_now.each x).1 (inr (lawful.whole x ready))) in
    let ids : w.done ≡ b.done =
    IsRising-is_unique w.done b.done w.base.are_done.rising
    b.base.are_done.rising (λ x c. done x (w.sound.ready x c))
    (λ x c. all_done x (b.sound.ready x c)) in
    let stored : w.stored ≡ b.stored =
    IsSound-final m rising w.done w.stored w.sound covered all_done _ lawful
    ∙ sym (IsSound-final m rising b.done b.stored b.sound covered done _ lawful) in
    subst (λ (s : Contents). IsBase whole b.done s) stored
    (subst (λ (d : List Id). IsBase whole d w.stored) ids w.base)

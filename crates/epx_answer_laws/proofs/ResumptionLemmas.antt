-- A base and a committed map have exactly one text, where the base is not bad.
use Rattle.std.proofs.Common.{◌≡◌, ◌⊎◌, ℕ, List, refl, sym, ap₂, ◌∙◌, subst, inl, inr}
use Rattle.epx_types.proofs.Common.{Contents, IsRising, Instance, ids_of, commands_in, remaining}
use Rattle.epx_types.proofs.Common.{execute, ranked_ids, IsRising-remaining}
use Rattle.epx_types.proofs.Common.{IsExecutionOrder-unique, IsWaitingList-unique}
use Rattle.epx_types.proofs.Common.{IsExecutionOrder-exists, IsWaitingList-exists}
use Rattle.epx_types.specs.declared.id.Id.{Id}
use Rattle.epx_report.specs.Bases.{IsBadBase}
use Rattle.epx_report.proofs.BaseLemmas.{BaseOrBadBase-holds, BaseIsNoBadBase-holds}
use Rattle.epx_report.proofs.BaseLemmas.{BaseSaysOneThing-holds}
use Rattle.epx_tool.specs.ResumedReport.{IsReportAfter, resumed_text}
use Rattle.epx_tool.specs.Resumption.{IsResumedText}

IsReportAfter-unique : (done : List Id) (stored : Contents) (m : List Instance)
    (text other : List ℕ) → IsReportAfter done stored m text → IsReportAfter done stored m other
    → text ≡ other
IsReportAfter-unique done stored m text other p q =
    let order = IsExecutionOrder-unique (remaining done m) p.order q.order p.ordered q.ordered in
    let waiting = IsWaitingList-unique (remaining done m) p.waiting q.waiting p.listed q.listed in
    p.printed ∙ ap₂ (λ o w. resumed_text done o w
    (execute (commands_in (remaining done m) (ranked_ids o)) stored)) order waiting ∙ sym q.printed

report_after_exists : (done : List Id) (stored : Contents) (m : List Instance)
    → IsRising (ids_of m) → (text : List ℕ) × IsReportAfter done stored m text
report_after_exists done stored m rising =
    let left = IsRising-remaining done m rising in
    let order = IsExecutionOrder-exists (remaining done m) left in
    let waiting = IsWaitingList-exists (remaining done m) left in (
      resumed_text done order.0 waiting.0
          (execute (commands_in (remaining done m) (ranked_ids order.0)) stored),
      record {
        order = order.0;
        waiting = waiting.0;
        ordered = order.1;
        listed = waiting.1;
        printed = refl;
      },
    )

-- ---- one text

module _ (base : List ℕ) where
  pub IsBadBase-not_if_resumed : (m : List Instance) (text : List ℕ) (line : ℕ)
      → IsResumedText base m text
      → ¬ IsBadBase base line
  IsBadBase-not_if_resumed m text line p = BaseIsNoBadBase-holds base p.0 p.1 line p.2

  pub IsResumedText-is_unique : (m : List Instance) (text other : List ℕ)
      → IsResumedText base m text
      → IsResumedText base m other → text ≡ other
  IsResumedText-is_unique m text other p q =
      let one = BaseSaysOneThing-holds base p.0 q.0 p.1 q.1 p.2 q.2 in
      let P : List Id → Contents → Type 0 = λ d s. IsReportAfter d s m text in
      IsReportAfter-unique q.0 q.1 m text other
      (subst (λ (s : Contents). P q.0 s) one.1 (subst (λ (d : List Id). P d p.1) one.0 p.3))
      q.3

-- ---- a text

pub IsResumedText-or_bad_base : (base : List ℕ)
    → ((m : List Instance) → IsRising (ids_of m) → (text : List ℕ) × IsResumedText base m text)
    ⊎ ((line : ℕ) × IsBadBase base line)
IsResumedText-or_bad_base base =
    elim (BaseOrBadBase-holds base) [
      | inl is ↦ inl (λ m rising. let text = report_after_exists is.0 is.1 m rising in
          (text.0, (is.0, is.1, is.2, text.1)))
      | inr bad ↦ inr bad
    ]

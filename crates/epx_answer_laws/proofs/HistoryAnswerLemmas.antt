-- The calls of clients have exactly one answer over a committed map.
use Rattle.std.proofs.Common.{◌≡◌, ◌⊎◌, ℕ, List, inl, inr, map, refl, subst}
use Rattle.epx_types.proofs.Common.{Instance, IsRising, commands_in, IsExecutionOrder-exists}
use Rattle.epx_types.proofs.Common.{ids_of}
use Rattle.epx_types.proofs.Common.{ranked_ids}
use Rattle.epx_verify.specs.ListExecutions.{list_execution}
use Rattle.epx_linear.specs.declared.client_call.ClientCall.{ClientCall}
use Rattle.epx_linear.specs.ClientCalls.{calls_in}
use Rattle.epx_linear.specs.HistoryTexts.{IsBadHistory}
use Rattle.epx_linear.specs.LinearTexts.{IsLinearText, linear_line, linear_text}
use Rattle.epx_linear.specs.Skews.{later_by}
use Rattle.epx_linear.proofs.FoundExistsLemmas.{AreFoundLate-exists}
use Rattle.epx_linear.proofs.HistoryLemmas.{HistoryIsNoBadHistory-holds, HistoryOrBadHistory-holds}
use Rattle.epx_linear.proofs.HistoryLemmas.{TextIsOneHistory-holds}
use Rattle.epx_linear.proofs.LinearTextLemmas.{LinearLineMeansLinear-holds}
use Rattle.epx_linear.proofs.LinearTextLemmas.{LinearTextIsUnique-holds}
use Rattle.epx_linear.proofs.SkewLemmas.{IsHistory-later_by}
use Rattle.epx_merge.proofs.UniquenessLemmas.{IsAccepted-is_unique}
use Rattle.epx_tool.specs.CheckAnswers.{IsHistoryCheckText}
use Rattle.epx_answer_laws.specs.CheckLaws.{LinearTextMeansLinear}

linear_text_exists : (m : List Instance) (h : List ClientCall) → IsRising (ids_of m)
    → (text : List ℕ) × IsLinearText m h text
linear_text_exists m h rising =
    let order = IsExecutionOrder-exists m rising in
    let ids = ranked_ids order.0 in
    let late = AreFoundLate-exists (commands_in m ids) (calls_in h ids) in (
      linear_text ids (list_execution m ids).replies h late.0,
      record {
        order = order.0;
        ordered = order.1;
        said = record { late = late.0; found = late.1; printed = refl };
      },
    )

pub IsBadHistory-not_if_checked : (skew : ℕ) (history : List ℕ) (m : List Instance) (text : List ℕ)
    (line : ℕ)
    → IsHistoryCheckText skew history m text → ¬ IsBadHistory history line
IsBadHistory-not_if_checked skew history m text line p =
    HistoryIsNoBadHistory-holds history p.0 line p.1

pub IsHistoryCheckText-or_bad : (skew : ℕ) (history : List ℕ)
    → ((m : List Instance) → IsRising (ids_of m)
    → (text : List ℕ) × IsHistoryCheckText skew history m text)
    ⊎ ((line : ℕ) × IsBadHistory history line)
IsHistoryCheckText-or_bad skew history = elim (HistoryOrBadHistory-holds history) [
  | inl is ↦ inl (λ m rising.
      let text = linear_text_exists m (map (later_by skew) is.0) rising in
      (text.0, (is.0, is.1, text.1)))
  | inr bad ↦ inr bad
]

pub IsHistoryCheckText-is_unique : (skew : ℕ) (history : List ℕ) (m : List Instance)
    (text other : List ℕ) → IsHistoryCheckText skew history m text
    → IsHistoryCheckText skew history m other → text ≡ other
IsHistoryCheckText-is_unique skew history m text other p q =
    let h = map (later_by skew) q.0 in
    LinearTextIsUnique-holds m h text other
    (subst (λ (calls : List ClientCall). IsLinearText m (map (later_by skew) calls) text)
    (TextIsOneHistory-holds history p.0 q.0 p.1 q.1) p.2) q.2

pub LinearTextMeansLinear-holds : LinearTextMeansLinear
LinearTextMeansLinear-holds skew history logs h m order short is accepted ordered =
    let later = map (later_by skew) h in
    let apart = IsHistory-later_by skew h is.1 in (
      λ a.
          let same = IsAccepted-is_unique logs a.1.0 m a.1.1 accepted in
          let found = a.1.2 in
          let one = TextIsOneHistory-holds history found.0 h found.1 is in
          let text : IsLinearText m later linear_line =
          subst (λ (n : List Instance). IsLinearText n later linear_line) same
          (subst (λ (calls : List ClientCall).
          IsLinearText a.1.0 (map (later_by skew) calls) linear_line) one found.2) in
          (LinearLineMeansLinear-holds m later order linear_line apart ordered text).0 refl,
      λ linear.
          let text = linear_text_exists m later accepted.committed.rising in
          let line : text.0 ≡ linear_line =
          (LinearLineMeansLinear-holds m later order text.0 apart ordered text.1).1 linear in (
            short,
            (
              m,
              accepted,
              (h, is, subst (λ (t : List ℕ). IsLinearText m later t) line text.1),
            ),
          ),
    )

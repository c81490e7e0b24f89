-- Every committed map has a report and its views, and every list of logs has an answer.
use Rattle.std.proofs.Common.{◌≢◌, ℕ, List, [], Result, Ok, Err, refl, inl, inr}
use Rattle.std.specs.FinMap as contents
use Rattle.epx_types.proofs.Common.{IsRising, Instance, ids_of, commands_in, execute, ranked_ids}
use Rattle.epx_types.proofs.Common.{IsExecutionOrder-exists, IsWaitingList-exists, AreLevels-exists}
use Rattle.epx_types.specs.declared.fault.Fault.{Fault}
use Rattle.epx_types.specs.declared.fault.Fault.TheVariants.{Memory}
use Rattle.epx_merge.proofs.ExistenceLemmas.{IsAccepted-or_refused}
use Rattle.epx_audit.proofs.LeastUncoveredLemmas.{IsCovered-or_uncovered}
use Rattle.epx_picture.specs.PictureLaws.{PictureAroundExists}
use Rattle.epx_picture.proofs.PictureLemmas.{IsPicture-exists}
use Rattle.epx_neighbours.specs.UncoveredTextLaws.{UncoveredTextExists}
use Rattle.epx_compare.proofs.ComparisonAnswerLemmas.{Compares-exists}
use Rattle.epx_names.specs.Tasks.{HasInput}
use Rattle.epx_names.specs.declared.task.Task.{Task}
use Rattle.epx_names.specs.declared.task.Task.TheVariants.{Run, Order, Levels, Graph, Resume}
use Rattle.epx_names.specs.declared.task.Task.TheVariants.{Audit, Check, CheckPrefix, Compare}
use Rattle.epx_names.specs.declared.task.Task.TheVariants.{Linear, Replay, Verify}
use Rattle.epx_names.specs.declared.task.Task.TheVariants.{Blockers, Why, Path, Trace}
use Rattle.epx_names.specs.declared.task.Task.TheVariants.{AuditAll, Around}
use Rattle.epx_tool.specs.Report.{IsReport, report_text}
use Rattle.epx_views.specs.OrderText.{IsOrderText, order_text}
use Rattle.epx_views.specs.LevelText.{IsLevelText, level_text}
use Rattle.epx_tool.specs.AuditText.{IsAuditText}
use Rattle.epx_report.specs.ViewLines.{covered_line, uncovered_line}
use Rattle.epx_why.proofs.TextExistenceLemmas.{WhyTextExists-holds, PathTextExists-holds}
use Rattle.epx_blockers.proofs.BlockerTextLemmas.{BlockersTextExists-holds}
use Rattle.epx_trace.proofs.TraceLemmas.{TraceTextExists-holds}
use Rattle.epx_tool.specs.TaskAnswers.{AnswersLogs}
use Rattle.epx_tool.specs.TaskTexts.{IsTaskText}
use Rattle.epx_tool.specs.Answer.{Answers}

module _ (m : List Instance) (rising : IsRising (ids_of m)) where
  pub IsReport-exists : (text : List ℕ) × IsReport m text
  IsReport-exists =
      let order = IsExecutionOrder-exists m rising in
      let waiting = IsWaitingList-exists m rising in (
        report_text order.0 waiting.0 (execute (commands_in m (ranked_ids order.0)) contents.empty),
        record {
          order = order.0;
          waiting = waiting.0;
          ordered = order.1;
          listed = waiting.1;
          printed = refl;
        },
      )

  pub IsOrderText-exists : (text : List ℕ) × IsOrderText m text
  IsOrderText-exists =
      let order = IsExecutionOrder-exists m rising in
      let waiting = IsWaitingList-exists m rising in (
        order_text order.0 waiting.0,
        record {
          order = order.0;
          waiting = waiting.0;
          ordered = order.1;
          listed = waiting.1;
          printed = refl;
        },
      )

  pub IsLevelText-exists : (text : List ℕ) × IsLevelText m text
  IsLevelText-exists =
      let order = IsExecutionOrder-exists m rising in
      let waiting = IsWaitingList-exists m rising in
      let levels = AreLevels-exists (commands_in m (ranked_ids order.0)) in (
        level_text order.0 levels.0 waiting.0,
        record {
          order = order.0;
          levels = levels.0;
          waiting = waiting.0;
          ordered = order.1;
          levelled = levels.1;
          listed = waiting.1;
          printed = refl;
        },
      )

  pub IsAuditText-exists : (text : List ℕ) × IsAuditText m text
  IsAuditText-exists = elim (IsCovered-or_uncovered m) [
    | inl covered ↦ (covered_line, inl (covered, refl))
    | inr pair ↦ (uncovered_line pair.0 pair.1, inr (pair.0, pair.1, pair.2, refl))
  ]

  -- what is around an instance has a picture, and uncovered pairs have a text, by laws of
  -- `epx_picture` and `epx_neighbours`
  pub IsTaskText-exists : PictureAroundExists → UncoveredTextExists → (task : Task)
      → ¬ HasInput task → task ≢ Compare
      → (text : List ℕ) × IsTaskText task [] m text
  IsTaskText-exists around pairs Run alone other = IsReport-exists
  IsTaskText-exists around pairs Order alone other = IsOrderText-exists
  IsTaskText-exists around pairs Levels alone other = IsLevelText-exists
  IsTaskText-exists around pairs Blockers alone other = BlockersTextExists-holds m
  IsTaskText-exists around pairs Graph alone other = IsPicture-exists m rising
  IsTaskText-exists around pairs (Around x steps) alone other = around m x steps rising
  IsTaskText-exists around pairs Audit alone other = IsAuditText-exists
  IsTaskText-exists around pairs AuditAll alone other = pairs m rising
  IsTaskText-exists around pairs Resume alone other = absurd (alone tt)
  IsTaskText-exists around pairs Check alone other = absurd (alone tt)
  IsTaskText-exists around pairs CheckPrefix alone other = absurd (alone tt)
  IsTaskText-exists around pairs Replay alone other = absurd (alone tt)
  IsTaskText-exists around pairs Verify alone other = absurd (alone tt)
  IsTaskText-exists around pairs (Linear skew) alone other = absurd (alone tt)
  IsTaskText-exists around pairs Compare alone other = absurd (other refl)
  IsTaskText-exists around pairs (Why x) alone other = WhyTextExists-holds m x rising
  IsTaskText-exists around pairs (Path x y) alone other = PathTextExists-holds m x y
  IsTaskText-exists around pairs (Trace key reads) alone other =
      TraceTextExists-holds m key.text.bytes reads rising

-- if every committed map has a text, every list of logs has an answer
pub Answers-exists : (Is : List Instance → List ℕ → Type 0)
    → ((m : List Instance) → IsRising (ids_of m) → (text : List ℕ) × Is m text)
    → (logs : List (List ℕ)) → (a : Result (List ℕ) Fault) × (a ≢ Err Memory) × Answers Is logs a
Answers-exists Is text_of_map logs =
    elim (IsAccepted-or_refused logs) [
      | inl accepted ↦ let text = text_of_map accepted.0 accepted.1.committed.rising in
          (Ok text.0, (λ same. cc same), (accepted.0, accepted.1, text.1))
      | inr refused ↦ (Err refused.0, (λ same. refused.1 (cc same)), refused.2)
    ]

pub AnswersLogs-exists : PictureAroundExists → UncoveredTextExists → (task : Task)
    → ¬ HasInput task → (logs : List (List ℕ))
    → (a : Result (List ℕ) Fault) × (a ≢ Err Memory) × AnswersLogs task logs a
AnswersLogs-exists around pairs Compare alone = Compares-exists
AnswersLogs-exists around pairs task alone = Answers-exists (IsTaskText task [])
    (λ m rising. IsTaskText-exists m rising around pairs task alone (λ same. cc same))

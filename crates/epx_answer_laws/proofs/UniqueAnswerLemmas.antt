-- Logs have at most one answer.
use Rattle.std.proofs.Common.{◌≡◌, ◌≢◌, ℕ, List, Result, Ok, Err, inl, inr, sym, ap, ap₂, ◌∙◌, []}
use Rattle.std.proofs.Common.{subst}
use Rattle.std.specs.FinMap as contents
use Rattle.epx_types.proofs.Common.{Instance, execute, IsExecutionOrder-unique, AreLevels}
use Rattle.epx_types.proofs.Common.{ranked_ids, commands_in, AreLevels-unique, IsWaitingList-unique}
use Rattle.epx_types.specs.declared.fault.Fault.{Fault}
use Rattle.epx_types.specs.declared.fault.Fault.TheVariants.{Memory}
use Rattle.epx_merge.proofs.UniquenessLemmas.{IsAccepted-is_unique, IsRefusal-of_accepted}
use Rattle.epx_merge.proofs.UniquenessLemmas.{IsRefusal-is_unique}
use Rattle.epx_tool.specs.Report.{IsReport, report_text}
use Rattle.epx_views.specs.OrderText.{IsOrderText, order_text}
use Rattle.epx_views.specs.LevelText.{IsLevelText, level_text}
use Rattle.epx_tool.specs.AuditText.{IsAuditText}
use Rattle.epx_report.specs.ViewLines.{uncovered_line}
use Rattle.epx_picture.proofs.UniquePictureLemmas.{PictureIsUnique-holds}
use Rattle.epx_picture.proofs.UniquePictureLemmas.{PictureAroundIsUnique-holds}
use Rattle.epx_neighbours.specs.UncoveredTextLaws.{UncoveredTextIsUnique}
use Rattle.epx_audit.proofs.UniquePairLemmas.{IsCovered-not_if_uncovered}
use Rattle.epx_audit.proofs.UniquePairLemmas.{IsLeastUncovered-is_unique}
use Rattle.epx_compare.proofs.ComparisonAnswerLemmas.{Compares-is_unique}
use Rattle.epx_names.specs.declared.task.Task.{Task}
use Rattle.epx_names.specs.declared.task.Task.TheVariants.{Run, Order, Levels, Graph, Resume}
use Rattle.epx_names.specs.declared.task.Task.TheVariants.{Audit, Check, CheckPrefix, Compare}
use Rattle.epx_names.specs.declared.task.Task.TheVariants.{Linear, Replay, Verify}
use Rattle.epx_names.specs.declared.task.Task.TheVariants.{Blockers, Why, Path, Trace}
use Rattle.epx_names.specs.declared.task.Task.TheVariants.{AuditAll, Around}
use Rattle.epx_why.proofs.UniqueTextLemmas.{WhyTextIsUnique-holds, PathTextIsUnique-holds}
use Rattle.epx_blockers.proofs.BlockerTextLemmas.{BlockersTextIsUnique-holds}
use Rattle.epx_trace.proofs.TraceLemmas.{TraceTextIsUnique-holds}
use Rattle.epx_tool.specs.Answer.{Answers}
use Rattle.epx_tool.specs.TaskAnswers.{AnswersLogs}
use Rattle.epx_tool.specs.TaskTexts.{IsTaskText}
use Rattle.epx_tool.specs.Verdicts.{IsPrefixVerdict, IsVerdict}
use Rattle.epx_verify.specs.VerifyLaws.{TextSaysOneThing}
use Rattle.epx_tool.proofs.CheckLemmas.{IsTextBy-is_unique}
use Rattle.epx_answer_laws.proofs.ResumptionLemmas.{IsResumedText-is_unique}
use Rattle.epx_answer_laws.proofs.HistoryAnswerLemmas.{IsHistoryCheckText-is_unique}
use Rattle.epx_answer_laws.proofs.SaidAnswerLemmas.{IsReplayOf, IsVerifyText-is_unique}
use Rattle.epx_answer_laws.proofs.SaidAnswerLemmas.{IsReplayOf-is_unique}
use Rattle.epx_tool.proofs.VerdictLemmas.{IsPrefixVerdict-is_unique, IsVerdict-is_unique}

pub IsReport-unique : (m : List Instance) (text other : List ℕ) → IsReport m text
    → IsReport m other → text ≡ other
IsReport-unique m text other p q =
    let order = IsExecutionOrder-unique m p.order q.order p.ordered q.ordered in
    let waiting = IsWaitingList-unique m p.waiting q.waiting p.listed q.listed in
    p.printed
    ∙ ap₂ (λ o w. report_text o w (execute (commands_in m (ranked_ids o)) contents.empty)) order
    waiting ∙ sym q.printed

pub IsOrderText-unique : (m : List Instance) (text other : List ℕ) → IsOrderText m text
    → IsOrderText m other → text ≡ other
IsOrderText-unique m text other p q =
    let order = IsExecutionOrder-unique m p.order q.order p.ordered q.ordered in
    let waiting = IsWaitingList-unique m p.waiting q.waiting p.listed q.listed in
    p.printed ∙ ap₂ order_text order waiting ∙ sym q.printed

pub IsLevelText-unique : (m : List Instance) (text other : List ℕ) → IsLevelText m text
    → IsLevelText m other → text ≡ other
IsLevelText-unique m text other p q =
    let order = IsExecutionOrder-unique m p.order q.order p.ordered q.ordered in
    let waiting = IsWaitingList-unique m p.waiting q.waiting p.listed q.listed in
    let levels = AreLevels-unique (commands_in m (ranked_ids q.order)) p.levels q.levels
    (subst (λ o. AreLevels (commands_in m (ranked_ids o)) p.levels) order p.levelled) q.levelled in
    p.printed ∙ ap₂ (λ o w. level_text o p.levels w) order waiting
    ∙ ap (λ ls. level_text q.order ls q.waiting) levels ∙ sym q.printed

pub IsAuditText-unique : (m : List Instance) (text other : List ℕ) → IsAuditText m text
    → IsAuditText m other → text ≡ other
IsAuditText-unique m text other (inl p) (inl q) = p.1 ∙ sym q.1
IsAuditText-unique m text other (inl p) (inr q) =
    absurd (IsCovered-not_if_uncovered m q.0 q.1 q.2.uncovered p.0)
IsAuditText-unique m text other (inr p) (inl q) =
    absurd (IsCovered-not_if_uncovered m p.0 p.1 p.2.uncovered q.0)
IsAuditText-unique m text other (inr p) (inr q) =
    let same = IsLeastUncovered-is_unique m p.0 p.1 q.0 q.1 p.2 q.2 in
    p.3 ∙ ap₂ uncovered_line same.0 same.1 ∙ sym q.3

-- a text of a replica says one thing, and uncovered pairs have one text, which are laws of
-- `epx_verify` and `epx_neighbours`
pub IsTaskText-unique : TextSaysOneThing → UncoveredTextIsUnique → (task : Task)
    (input : List ℕ) (m : List Instance) (text other : List ℕ)
    → IsTaskText task input m text → IsTaskText task input m other → text ≡ other
IsTaskText-unique one pairs Run input = IsReport-unique
IsTaskText-unique one pairs Order input = IsOrderText-unique
IsTaskText-unique one pairs Levels input = IsLevelText-unique
IsTaskText-unique one pairs Blockers input = BlockersTextIsUnique-holds
IsTaskText-unique one pairs Graph input = PictureIsUnique-holds
IsTaskText-unique one pairs (Around x steps) input = λ m. PictureAroundIsUnique-holds m x steps
IsTaskText-unique one pairs Audit input = IsAuditText-unique
IsTaskText-unique one pairs AuditAll input = pairs
IsTaskText-unique one pairs Resume base = IsResumedText-is_unique base
IsTaskText-unique one pairs Check list = IsTextBy-is_unique IsVerdict list IsVerdict-is_unique
IsTaskText-unique one pairs CheckPrefix list =
    IsTextBy-is_unique IsPrefixVerdict list IsPrefixVerdict-is_unique
IsTaskText-unique one pairs Replay list = IsTextBy-is_unique IsReplayOf list IsReplayOf-is_unique
IsTaskText-unique one pairs Verify said = IsVerifyText-is_unique one said
IsTaskText-unique one pairs (Linear skew) history = IsHistoryCheckText-is_unique skew history
IsTaskText-unique one pairs Compare input = λ m text other none. absurd none
IsTaskText-unique one pairs (Why x) input = λ m. WhyTextIsUnique-holds m x
IsTaskText-unique one pairs (Path x y) input = λ m. PathTextIsUnique-holds m x y
IsTaskText-unique one pairs (Trace key reads) input =
    λ m. TraceTextIsUnique-holds m key.text.bytes reads

-- if each committed map has at most one text, logs have at most one answer, except for out of
-- memory
module _ (Is : List Instance → List ℕ → Type 0)
    (one : (m : List Instance) (text other : List ℕ) → Is m text → Is m other → text ≡ other) where
  pub Answers-unique : (logs : List (List ℕ)) (a b : Result (List ℕ) Fault) → a ≢ Err Memory
      → b ≢ Err Memory → Answers Is logs a → Answers Is logs b → a ≡ b
  Answers-unique logs (Ok text) (Ok other) s t p q =
      let same = IsAccepted-is_unique logs p.0 q.0 p.1 q.1 in
      ap Ok (one q.0 text other (subst (λ m. Is m text) same p.2) q.2)
  Answers-unique logs (Ok text) (Err fault) s t p q =
      absurd (t (ap Err (IsRefusal-of_accepted logs p.0 fault p.1 q)))
  Answers-unique logs (Err fault) (Ok text) s t p q =
      absurd (s (ap Err (IsRefusal-of_accepted logs q.0 fault q.1 p)))
  Answers-unique logs (Err fault) (Err other) s t p q =
      ap Err (IsRefusal-is_unique logs fault other (λ e. s (ap Err e)) (λ e. t (ap Err e)) p q)

pub AnswersLogs-unique : TextSaysOneThing → UncoveredTextIsUnique → (task : Task)
    (logs : List (List ℕ)) (a b : Result (List ℕ) Fault) → a ≢ Err Memory → b ≢ Err Memory
    → AnswersLogs task logs a → AnswersLogs task logs b → a ≡ b
AnswersLogs-unique one pairs Compare = Compares-is_unique
AnswersLogs-unique one pairs task =
    Answers-unique (IsTaskText task []) (IsTaskText-unique one pairs task [])

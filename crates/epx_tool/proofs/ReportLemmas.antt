-- The report and the audit of a committed map, from the results of the lower layers.
use Rattle.std.proofs.Common.{◌≡◌, ◌≤◌, ◌^◌, ℕ, List, [], Option, Some, None, MatchOption, inl, inr}
use Rattle.std.proofs.Common.{length, sym, ap, ap₂, ◌∙◌, subst, arith, Contains}
use Rattle.std.specs.FinMap as contents
use Rattle.epx_types.proofs.Common.{length-map, Contents, Instance, remaining, execute, Ranked}
use Rattle.epx_types.proofs.Common.{IsExecutionOrder, ranked_ids, Waiting, IsWaitingList}
use Rattle.epx_types.proofs.Common.{max_instances, commands_in, IsCovered, Contains-remaining_iff}
use Rattle.epx_types.proofs.Common.{remaining-nil, IsExecutionOrder-IsLawful}
use Rattle.epx_types.proofs.Common.{IsExecutionOrder-length}
use Rattle.epx_types.proofs.Common.{commands-left, length-remaining}
use Rattle.epx_types.specs.declared.id.Id.{Id}
use Rattle.epx_types.specs.declared.op.Op.{Op}
use Rattle.epx_types.specs.declared.reply.Reply.{Reply}
use Rattle.epx_tool.specs.Report.{IsReport, report_text}
use Rattle.epx_tool.specs.ResumedReport.{IsReportAfter, resumed_text}
use Rattle.epx_tool.specs.AuditText.{IsAuditText}
use Rattle.epx_report.specs.ViewLines.{covered_line, uncovered_line}
use Rattle.epx_audit.specs.Uncovered.{IsLeastUncovered}

module _ (done : List Id) (m : List Instance) (order : List Ranked)
    (ordered : IsExecutionOrder (remaining done m) order) (ids : List Id)
    (are : ids ≡ ranked_ids order) where
  few_ordered : length m ≤ max_instances → length order ≤ 2 ^ 40
  few_ordered few = omega (
    arith,
    few,
    IsExecutionOrder-length (remaining done m) order ordered,
    length-remaining done m,
  )

  pub length-ids_within : length m ≤ max_instances → length ids ≤ 2 ^ 40
  length-ids_within few =
      let many : length ids ≡ length order =
      ap length are ∙ length-map order (λ (r : Ranked). r.id) in
      omega (arith, many, few_ordered few)

  -- an instance that is executed is not done
  pub Contains-not_done_yet : (x : Id) → Contains ids x → ¬ Contains done x
  Contains-not_done_yet x there =
      let ready = (IsExecutionOrder-IsLawful (remaining done m) order ordered).only x
      (subst (λ (xs : List Id). Contains xs x) are there) in
      ((Contains-remaining_iff done m x).0 ready.committed).1

  pub IsReportAfter-printed : (stored : Contents) (waiting : List Waiting)
      (commands : List (List Op)) (replies : List Reply) (final : Contents) (text : List ℕ)
      → IsWaitingList (remaining done m) waiting → commands ≡ commands_in m ids
      → replies ≡ (execute commands stored).replies → final ≡ (execute commands stored).final
      → text ≡ resumed_text done order waiting (record { replies = replies; final = final })
      → IsReportAfter done stored m text
  IsReportAfter-printed stored waiting commands replies final text listed e_commands e_replies
      e_final e_text = record {
        order = order;
        waiting = waiting;
        ordered = ordered;
        listed = listed;
        printed =
            e_text ∙ ap₂ (λ rs f. resumed_text done order waiting
            (record { replies = rs; final = f }))
            (e_replies ∙ ap (λ cs. (execute cs stored).replies) all)
            (e_final ∙ ap (λ cs. (execute cs stored).final) all);
      } where
        all : commands ≡ commands_in (remaining done m) (ranked_ids order)
        all = e_commands ∙ sym (commands-left done m ids Contains-not_done_yet)
            ∙ ap (commands_in (remaining done m)) are

-- a report after nothing is done, from the empty store, is the report of the map
pub IsReport-after_nothing : (m : List Instance) (text : List ℕ)
    → IsReportAfter [] contents.empty m text → IsReport m text
IsReport-after_nothing m text p =
    let whole = remaining-nil m in record {
      order = p.order;
      waiting = p.waiting;
      ordered = subst (λ (l : List Instance). IsExecutionOrder l p.order) whole p.ordered;
      listed = subst (λ (l : List Instance). IsWaitingList l p.waiting) whole p.listed;
      printed =
          p.printed ∙ ap (λ (l : List Instance). report_text p.order p.waiting
          (execute (commands_in l (ranked_ids p.order)) contents.empty)) whole;
    }

pub IsAuditText-printed : (m : List Instance) (found : Option (Id × Id)) (text : List ℕ)
    → MatchOption found (IsCovered m) (λ p. IsLeastUncovered m p.0 p.1)
    → MatchOption found (text ≡ covered_line) (λ p. text ≡ uncovered_line p.0 p.1)
    → IsAuditText m text
IsAuditText-printed m None text covered printed = inl (covered, printed)
IsAuditText-printed m (Some p) text least printed = inr (p.0, p.1, least, printed)

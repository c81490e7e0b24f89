use Rattle.std.proofs.Common.{◌≡◌, ◌∙◌, ◌↔◌, [], List, Contains, rules, subst, subst₂}
use Rattle.epx_types.specs.Contents.{Contents}
use Rattle.epx_types.specs.Instances.{Instance}
use Rattle.epx_types.specs.declared.id.Id.{Id}
use Rattle.epx_committed.specs.MergedLines.{IsMergeFault}
use Rattle.epx_executor.specs.CallLines.{call_lines}
use Rattle.epx_executor.specs.Commits.{IsCommit}
use Rattle.epx_state.specs.Starts.{IsReportFault}
use Rattle.epx_state.proofs.StartLemmas.{IsReportFault-from_merge, HoldsReport-commit}
use Rattle.epx_state.proofs.start.read_report.Goals as goal

pub returns-in_err-executor-clause-refused : goal.returns-in_err-executor-clause-refused
returns-in_err-executor-clause-refused g c =
    let fault = c.in_err-executor.field-0.0 in
    let refused : IsReportFault c.args.bytes.now fault =
    IsReportFault-from_merge c.args.bytes.now c.in_ok-done.done fault
    (subst (λ (ws : List Instance). IsMergeFault (call_lines c.in_ok-done.done [] ws) fault)
    c.new.ensures.items c.in_err-executor.ensures.refused) in
    search rules

pub returns-clause-held : goal.returns-clause-held
returns-clause-held g c =
    let base = c.in_ok-read_base_by.field-0 in
    let ids : c.deref.result.now ≡ base.done =
    c.deref.ensures.value ∙ c.into_parts-ids.ensures.done in
    let each : (x : Id) → Contains c.in_ok-done.done x ↔ Contains base.done x =
    subst (λ (xs : List Id). (x : Id) → Contains c.in_ok-done.done x ↔ Contains xs x) ids
    c.in_ok-done.ensures in
    let commit = subst₂ (λ (s : Contents) (ws : List Instance). IsCommit
    (record { done = c.in_ok-done.done; store = s; pending = [] }) ws c.in_ok-executor.executor
    c.in_ok-executor._replies.items) c.into_parts-ids.ensures.store c.new.ensures.items
    c.in_ok-executor.ensures.ok in (
      base.done,
      base.stored,
      c.in_ok-read_base_by.ensures.base,
      HoldsReport-commit c.restarted_executor_holds_the_same.ensures base.done c.in_ok-done.done
          base.stored each c.in_ok-executor.executor c.in_ok-executor._replies.items commit,
    )

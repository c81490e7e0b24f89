use Rattle.std.proofs.Common.{◌≡◌, ◌∙◌, ◌+◌, ◌<◌, [], List, Contains, All, length, ap, subst, arith}
use Rattle.std.proofs.Common.{rules}
use Rattle.std.specs.FinMap as contents
use Rattle.epx_types.proofs.Common.{slice_get_within}
use Rattle.epx_types.specs.CommittedMap.{ids_of}
use Rattle.epx_types.specs.Instances.{Instance}
use Rattle.epx_types.specs.declared.id.Id.{Id}
use Rattle.epx_committed.specs.MergedLines.{IsMergeFault}
use Rattle.epx_report.specs.between.PutPairs.{put_pairs}
use Rattle.epx_executor.specs.CallLines.{call_lines}
use Rattle.epx_executor.specs.Commits.{IsCommit}
use Rattle.epx_state.specs.inner.StateProgress.{parts_of}
use Rattle.epx_state.specs.inner.Restoring.{IsFirstAmong, IsRestoreFault}
use Rattle.epx_state.proofs.RestoreLemmas.{IsFirstReady-first_among, HoldsState-parts}
use Rattle.epx_state.proofs.RestoreLemmas.{entries-put_rising}
use Rattle.epx_state.proofs.RestoreLemmas.{IsRestoreFault-from_merge}
use Rattle.epx_state.proofs.restore.restore.Goals as goal

pub returns-in_err-executor-clause-refused : goal.returns-in_err-executor-clause-refused
returns-in_err-executor-clause-refused g c =
    let refused : IsRestoreFault (parts_of c.args.progress) c.in_err-executor.field-0.0 =
    IsRestoreFault-from_merge (parts_of c.args.progress) c.requires c.in_ok-done.done
    c.in_ok-done.ensures.done c.in_err-executor.field-0.0
    (subst (λ (ws : List Instance).
    IsMergeFault (call_lines c.in_ok-done.done [] ws) c.in_err-executor.field-0.0)
    c.in_ok-done.ensures.waiting c.in_err-executor.ensures.refused) in
    search rules

pub overflow_add-result : goal.overflow_add-result
overflow_add-result g c =
    let first = c.in-Some.ensures.found in
    let within : c.in-Some.position < length c.deref-2.result.now =
    slice_get_within c.deref-2.result.now c.in-Some.position first.id first.there in
    let few : length c.deref-2.result.now ≡ length c.in_ok-ids.ids.items =
    ap length c.deref-2.ensures.value in
    omega (
      arith,
      within,
      few,
      c.run_count-line.ensures.fits,
      c.in_ok-ids.ids.small,
      c.in_ok-ids.ids.ok,
    )

pub returns-in-Some-clause-refused : goal.returns-in-Some-clause-refused
returns-in-Some-clause-refused g c =
    let ids_are : c.deref-2.result.now ≡ ids_of c.args.progress.waiting =
    c.deref-2.ensures.value ∙ c.in_ok-ids.ensures
    ∙ ap ids_of (c.deref.ensures.value ∙ c.in_ok-done.ensures.waiting) in
    IsFirstReady-first_among (parts_of c.args.progress) c.requires c.in_ok-done.done
    c.in_ok-done.ensures.done c.in_ok-store.store c.in_ok-executor.executor
    c.in_ok-executor._replies.items
    (subst (λ (ws : List Instance). IsCommit
    (record { done = c.in_ok-done.done; store = c.in_ok-store.store; pending = [] }) ws
    c.in_ok-executor.executor c.in_ok-executor._replies.items) c.in_ok-done.ensures.waiting
    c.in_ok-executor.ensures.ok)
    c.in-Some.position (c.run_count-line.result + 2 + c.in-Some.position)
    (subst (λ (ids : List Id). IsFirstAmong c.in_ok-executor.executor.done ids c.in-Some.position)
    ids_are c.in-Some.ensures.found)
    (omega (arith, c.run_count-line.ensures.count))

pub returns-clause-restored : goal.returns-clause-restored
returns-clause-restored g c =
    let ids_are : c.deref-2.result.now ≡ ids_of c.args.progress.waiting =
    c.deref-2.ensures.value ∙ c.in_ok-ids.ensures
    ∙ ap ids_of (c.deref.ensures.value ∙ c.in_ok-done.ensures.waiting) in (
      HoldsState-parts (parts_of c.args.progress) c.requires c.in_ok-done.done
          c.in_ok-done.ensures.done c.in_ok-store.store c.in_ok-executor.executor
          c.in_ok-executor._replies.items
          (subst (λ (ws : List Instance). IsCommit
          (record { done = c.in_ok-done.done; store = c.in_ok-store.store; pending = [] }) ws
          c.in_ok-executor.executor c.in_ok-executor._replies.items) c.in_ok-done.ensures.waiting
          c.in_ok-executor.ensures.ok)
          (subst (λ (ids : List Id). All (λ x. ¬ Contains c.in_ok-executor.executor.done x) ids)
          ids_are c.in-None.ensures.none)
          (entries-put_rising c.args.progress.stored c.in_ok-store.store
          (c.in_ok-store.ensures ∙ ap (λ ps. put_pairs ps contents.empty)
          c.in_ok-done.ensures.stored) c.requires.stored),
      omega (arith, c.run_count-line.ensures.count),
    )

use Rattle.std.proofs.Common.{◌≡◌, ◌⊎◌, ◌↔◌, ℕ, List, Option, IfSome, Contains, map, length}
use Rattle.std.proofs.Common.{slice_get, zip, sym, subst, refl, ap, ap₂, ◌∙◌, arith}
use Rattle.epx_types.proofs.Common.{length-map, IfSome_then, ops_or_empty, Contents, remaining}
use Rattle.epx_types.proofs.Common.{execute, Instance, Waiting}
use Rattle.epx_types.specs.declared.command.Command.{Command}
use Rattle.epx_types.specs.declared.id.Id.{Id}
use Rattle.epx_types.specs.declared.op.Op.{Op}
use Rattle.std.proofs.lemmas.Result.{err_from_is_err_and}
use Rattle.epx_committed.specs.MergedLines.{IsMergeFault}
use Rattle.epx_executor.specs.CallLines.{call_lines}
use Rattle.epx_executor.specs.Commits.{ExecutorView, IsCommit, not_done}
use Rattle.epx_executor.specs.inner.Choices.{AreFiledIn, IsRefiled}
use Rattle.epx_executor.specs.inner.Filings.{Filings}
use Rattle.epx_executor.proofs.CommitLemmas.{id-agrees_with_pending, length-after_batch}
use Rattle.epx_executor.proofs.CommitLemmas.{length-few_in_batch}
use Rattle.epx_executor.proofs.CommitLemmas.{IsCommit-batch, not_done-after_batch, length-batch}
use Rattle.epx_executor.proofs.CommitLemmas.{AllWait-after_batch}
use Rattle.epx_executor.proofs.FiledAfterLemmas.{IsChoiceOf, AreFiledIn-after}
use Rattle.epx_executor.proofs.RemainderLemmas.{remaining-not_done}
use Rattle.epx_executor.proofs.executor.Executor.commit.Given as given
use Rattle.epx_executor.proofs.executor.Executor.commit.Goals as goal

abbrev ops_of : List Command → List (List Op)
ops_of ks = map (λ (k : Command). k.ops.now) ks

abbrev ops_at : List Instance → List (Id × ℕ) → List (List Op)
ops_at m ps = map (λ (p : Id × ℕ). ops_or_empty (slice_get m p.1)) ps

pub returns-in_err-batch-clause-refused : goal.returns-in_err-batch-clause-refused
returns-in_err-batch-clause-refused g c =
    let fault = c.in_err-batch.field-0.0 in
    let came = c.args.came.items in
    let p = err_from_is_err_and c.from_residual-in_err-batch.result
    c.from_residual-in_err-batch.ensures.1 in
    rw (p.1, p.2) (subst (λ (v : ExecutorView).
    IsMergeFault (call_lines v.done v.pending came) fault) c.self.view_is c.in_err-batch.ensures)

pub execute_all-requires-clause-few : goal.execute_all-requires-clause-few
execute_all-requires-clause-few g c κs within =
    let b = c.in_ok-batch.batch in
    let inside = c.self.inside in
    let at : ops_of c.deref-4.result.now ≡ ops_at b.entries.items b.positions.items =
    ap ops_of c.deref-4.ensures.value ∙ c.in_ok-commands.ensures
    ∙ ap₂ ops_at c.deref-2.ensures.value c.deref-3.ensures.value in
    omega (
      arith,
      length-map c.deref-4.result.now (λ (k : Command). k.ops.now),
      length-few_in_batch inside.done inside.store inside.pending c.args.came.items
          c.in_ok-choice.choice b.entries.items b.order b.positions.items b.waiters.items b.done
          c.in_ok-batch.ensures (ops_of c.deref-4.result.now) at,
    )

pub execute_all-requires-clause-same : goal.execute_all-requires-clause-same
execute_all-requires-clause-same g c κs within =
    let b = c.in_ok-batch.batch in
    let inside = c.self.inside in
    let at : ops_of c.deref-4.result.now ≡ ops_at b.entries.items b.positions.items =
    ap ops_of c.deref-4.ensures.value ∙ c.in_ok-commands.ensures
    ∙ ap₂ ops_at c.deref-2.ensures.value c.deref-3.ensures.value in
    sym (length-map c.deref-4.result.now (λ (k : Command). k.ops.now))
    ∙ length-batch inside.done inside.store inside.pending c.args.came.items
    c.in_ok-choice.choice b.entries.items b.order b.positions.items b.waiters.items b.done
    c.in_ok-batch.ensures (ops_of c.deref-4.result.now) at
    ∙ ap length (sym c.ids.ensures)

pub update-requires-clause-alike : goal.update-requires-clause-alike
update-requires-clause-alike g c p e h k same =
    let b = c.in_ok-batch.batch in
    let inside = c.self.inside in
    id-agrees_with_pending inside.done inside.store inside.pending c.args.came.items
    c.in_ok-choice.choice b.entries.items b.order b.positions.items b.waiters.items b.done
    c.in_ok-batch.ensures p e h
    (subst (λ (es : List Instance). Contains es e) c.deref-5.ensures.value k) same

pub store_after-requires-after_bounds : goal.store_after-requires-after_bounds
store_after-requires-after_bounds g c κs within =
    let b = c.in_ok-batch.batch in
    let inside = c.self.inside in
    let at : ops_of c.deref-7.result.now ≡ ops_at b.entries.items b.positions.items =
    ap ops_of c.deref-7.ensures.value ∙ c.in_ok-commands.ensures
    ∙ ap₂ ops_at c.deref-2.ensures.value c.deref-3.ensures.value in
    omega (
      arith,
      length-map c.deref-7.result.now (λ (k : Command). k.ops.now),
      length-few_in_batch inside.done inside.store inside.pending c.args.came.items
          c.in_ok-choice.choice b.entries.items b.order b.positions.items b.waiters.items b.done
          c.in_ok-batch.ensures (ops_of c.deref-7.result.now) at,
    )

-- what is pending at the end
left : (g : given.Over) (c : goal.After-drop-entries-2 g)
    → c.update.new.self ≡ not_done c.in_ok-batch.batch.done c.in_ok-batch.ensures.m
left g c =
    let b = c.in_ok-batch.batch in
    let inside = c.self.inside in
    let after = c.update.new.self in
    let Left : List Instance → List Id → Type 0 = λ es ids. (e : Instance) → Contains after e
    ↔ ((Contains inside.pending e ⊎ (Contains es e × (¬ Contains b.done e.id)))
    × (¬ Contains ids e.id)) in
    not_done-after_batch inside.done inside.store inside.pending c.args.came.items
    c.in_ok-choice.choice
    b.entries.items b.order b.positions.items b.waiters.items b.done c.in_ok-batch.ensures
    c.self.invariant.0.not_done after c.in_ok-update.ensures.rising
    (subst (λ (ids : List Id). Left b.entries.items ids) c.ids-2.ensures
    (subst (λ (es : List Instance). Left es c.ids-2.result.now) c.deref-5.ensures.value
    c.in_ok-update.ensures.left))

-- what is filed at the end
filed : (g : given.Over) (c : goal.After-drop-entries-2 g) → IfSome c.refile.result
    (AreFiledIn (remaining c.in_ok-batch.batch.done c.update.new.self))
filed g c =
    let b = c.in_ok-batch.batch in
    let inside = c.self.inside in
    let m = c.in_ok-batch.ensures.m in
    let choice = c.in_ok-choice.choice in
    let known : IsChoiceOf inside.done inside.pending c.args.came.items inside.blockers choice =
    subst (λ (es : List Instance). IsChoiceOf inside.done inside.pending es inside.blockers choice)
    c.deref.ensures.value c.in_ok-choice.ensures in
    IfSome_then c.refile.result c.refile.ensures (λ f refiled.
    subst (λ (l : List Instance). AreFiledIn l f)
    (sym (ap (remaining b.done) (left g c) ∙ remaining-not_done b.done m))
    (AreFiledIn-after inside.blockers choice inside.done inside.pending c.args.came.items
    b.entries.items b.order b.positions.items b.waiters.items b.done c.in_ok-batch.ensures
    c.self.invariant.2 known f
    (subst (λ (ws : List Waiting). IsRefiled inside.blockers choice ws f) c.deref-6.ensures.value
    (subst (λ (o : Option Filings). IsRefiled o choice c.deref-6.result.now f) c.take.ensures.value
    refiled))))

pub invariant_of-self : goal.invariant_of-self
invariant_of-self g c = (
  c.self.invariant.0,
  c.in_err-spare.ensures.left,
  c.self.invariant.2,
  c.self.invariant.3,
)

pub returns-clause-ok : goal.returns-clause-ok
returns-clause-ok g c =
    let b = c.in_ok-batch.batch in
    let inside = c.self.inside in
    let came = c.args.came.items in
    let spare = c.in_ok-spare.spare in
    let replies = c.in_ok-store.replies.items in
    let os = ops_of c.deref-4.result.now in
    let at : os ≡ ops_at b.entries.items b.positions.items =
    ap ops_of c.deref-4.ensures.value ∙ c.in_ok-commands.ensures
    ∙ ap₂ ops_at c.deref-2.ensures.value c.deref-3.ensures.value in
    let after : ExecutorView = record {
      done = b.done;
      store = c.replace-before.new.dest;
      pending = c.update.new.self;
    } in
    subst (λ (v : ExecutorView). IsCommit v came after replies) c.self.view_is
    (IsCommit-batch inside.done inside.store inside.pending came c.in_ok-choice.choice
    b.entries.items b.order b.positions.items b.waiters.items b.done c.in_ok-batch.ensures os at
    spare c.in_ok-spare.ensures.same c.replace-before.new.dest replies c.update.new.self
    (c.replace-before.ensures.after ∙ c.in_ok-store.ensures.store)
    (c.in_ok-store.ensures.replies
    ∙ ap (λ (ids : List Id). zip ids (execute os spare).replies) c.ids.ensures) (left g c))

pub invariant_of-self-2 : goal.invariant_of-self-2
invariant_of-self-2 g c =
    let b = c.in_ok-batch.batch in
    let inside = c.self.inside in
    let spare = c.in_ok-spare.spare in
    let after = c.replace-before.new.dest in
    let before : c.replace-before.result ≡ spare =
    c.replace-before.ensures.value ∙ sym c.in_ok-spare.ensures.same in
    let alike : (execute (ops_of c.deref-7.result.now) c.replace-before.result).final ≡ after =
    ap (λ (d : Contents). (execute (ops_of c.deref-7.result.now) d).final) before
    ∙ ap (λ (ks : List Command). (execute (ops_of ks) spare).final)
    (c.deref-7.ensures.value ∙ sym c.deref-4.ensures.value)
    ∙ sym (c.replace-before.ensures.after ∙ c.in_ok-store.ensures.store) in (
      AllWait-after_batch inside.done inside.store inside.pending c.args.came.items
          c.in_ok-choice.choice b.entries.items b.order b.positions.items b.waiters.items b.done
          c.in_ok-batch.ensures _ refl (left g c),
      IfSome_then c.store_after.result c.store_after.ensures (λ s is. is ∙ alike),
      filed g c,
      length-after_batch inside.done inside.store inside.pending c.args.came.items
          c.in_ok-choice.choice b.entries.items b.order b.positions.items b.waiters.items b.done
          c.in_ok-batch.ensures c.update.new.self (left g c),
    )

use Rattle.std.proofs.Common.{List, Option, Contains, IfSome, ◌↔◌, ap, subst, sym, ◌∙◌}
use Rattle.epx_types.specs.declared.id.Id.{Id}
use Rattle.epx_types.specs.Done.{is_among}
use Rattle.epx_executor.specs.Runs.{IsInRuns, ids_in}
use Rattle.epx_executor.specs.declared.done_runs.Run.{Run}
use Rattle.epx_state.specs.inner.StateProgress.{StateProgress}
use Rattle.epx_state.proofs.RunIdLemmas.{is_among-ids_in}
use Rattle.epx_state.proofs.progress.StateProgress.is_in_runs.Goals as goal

pub ids_in_runs-requires-clause-known : goal.ids_in_runs-requires-clause-known
ids_in_runs-requires-clause-known c =
    subst (λ (known : Option (List Id)). IfSome known
    (λ d. (x : Id) → Contains d x ↔ IsInRuns c.deref.result.now x)) (sym c.take.ensures.value)
    (subst (λ (runs : List Run). IfSome c.self.inside.done
    (λ d. (x : Id) → Contains d x ↔ IsInRuns runs x)) (sym c.deref.ensures.value)
    c.self.invariant.1)

pub invariant_of-self-2 : goal.invariant_of-self-2
invariant_of-self-2 c = (
  c.self.invariant.0,
  subst (λ (runs : List Run). (x : Id) → Contains c.in_ok-done.done x ↔ IsInRuns runs x)
      c.deref.ensures.value c.in_ok-done.ensures,
)

pub returns-clause-found : goal.returns-clause-found
returns-clause-found c =
    is_among-ids_in _ _ c.in_ok-done.ensures _ _ c.contains-found.ensures
    ∙ ap (λ (runs : List Run). is_among (ids_in runs) c.args.id)
    (c.deref.ensures.value ∙ ap (λ (s : StateProgress). s.runs) c.self.view_is)

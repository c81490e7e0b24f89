use Rattle.std.proofs.Common.{List, Contains, IfSome, ◌↔◌, ap, subst, sym, ◌∙◌}
use Rattle.epx_types.specs.declared.id.Id.{Id}
use Rattle.epx_executor.specs.Runs.{IsInRuns}
use Rattle.epx_executor.specs.declared.done_runs.Run.{Run}
use Rattle.epx_state.specs.inner.StateProgress.{StateProgress}
use Rattle.epx_state.proofs.progress.StateProgress.into_parts.Goals as goal

pub ids_in_runs-requires-clause-known : goal.ids_in_runs-requires-clause-known
ids_in_runs-requires-clause-known c =
    subst (λ (runs : List Run). IfSome c.self.inside.done
    (λ d. (x : Id) → Contains d x ↔ IsInRuns runs x)) (sym c.deref.ensures.value)
    c.self.invariant.1

pub returns-clause-done : goal.returns-clause-done
returns-clause-done c =
    subst (λ (runs : List Run). (x : Id) → Contains c.in_ok-ids_in_runs.field-0 x
    ↔ IsInRuns runs x)
    (c.deref.ensures.value ∙ ap (λ (s : StateProgress). s.runs) c.self.view_is)
    c.in_ok-ids_in_runs.ensures

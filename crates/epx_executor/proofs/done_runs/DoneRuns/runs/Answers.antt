use Rattle.std.proofs.Common.{List, Contains, sym, subst}
use Rattle.epx_types.specs.declared.id.Id.{Id}
use Rattle.epx_executor.specs.declared.done_runs.Run.{Run}
use Rattle.epx_executor.specs.Runs.{AreRuns, IsInRuns}
use Rattle.epx_executor.proofs.RunLemmas.{Contains-ids_in, IsInRuns-from_ids_in}
use Rattle.epx_executor.proofs.done_runs.DoneRuns.runs.Goals as goal

pub returns-clause-runs : goal.returns-clause-runs
returns-clause-runs c = subst AreRuns (sym c.as_slice.ensures.value) c.self.invariant

pub returns-clause-members : goal.returns-clause-members
returns-clause-members c = λ x.
    let runs = c.self.inside.runs.items in (
      λ h. subst (λ (rs : List Run). IsInRuns rs x) (sym c.as_slice.ensures.value)
          (IsInRuns-from_ids_in runs x
          (subst (λ (ids : List Id). Contains ids x) (sym c.self.view_is) h)),
      λ h. subst (λ (ids : List Id). Contains ids x) c.self.view_is
          (Contains-ids_in runs x
          (subst (λ (rs : List Run). IsInRuns rs x) c.as_slice.ensures.value h)),
    )

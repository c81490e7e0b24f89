use Rattle.std.proofs.Common.{List, Contains, sym, subst}
use Rattle.epx_types.specs.declared.id.Id.{Id}
use Rattle.epx_executor.specs.declared.done_runs.Run.{Run}
use Rattle.epx_executor.specs.Runs.{IsInRuns}
use Rattle.epx_executor.proofs.RunLemmas.{Contains-ids_in, IsInRuns-from_ids_in}
use Rattle.epx_executor.proofs.done_runs.DoneRuns.contains.Goals as goal

pub returns : goal.returns
returns c =
    let runs = c.self.inside.runs.items in
    let id = c.args.id in (
      λ h. subst (λ (ids : List Id). Contains ids id) c.self.view_is
          (Contains-ids_in runs id (subst (λ (rs : List Run). IsInRuns rs id) c.deref.ensures.value
          (c.is_in_runs.ensures.0 h))),
      λ h. c.is_in_runs.ensures.1 (subst (λ (rs : List Run). IsInRuns rs id)
          (sym c.deref.ensures.value)
          (IsInRuns-from_ids_in runs id
          (subst (λ (ids : List Id). Contains ids id) (sym c.self.view_is) h))),
    )

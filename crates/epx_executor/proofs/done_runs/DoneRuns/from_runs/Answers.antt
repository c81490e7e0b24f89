use Rattle.std.proofs.Common.{List, sym, subst, inl, inr}
use Rattle.epx_types.proofs.Common.{Contains-nil}
use Rattle.epx_executor.specs.declared.done_runs.Run.{Run}
use Rattle.epx_executor.specs.Runs.{IsInRuns}
use Rattle.epx_executor.proofs.RunLemmas.{Contains-ids_in, IsInRuns-from_ids_in}
use Rattle.epx_executor.proofs.done_runs.DoneRuns.from_runs.Goals as goal

pub returns : goal.returns
returns c = λ x.
    let sorted = c.deref.result.now in
    let new = c.in_ok-runs.runs.items in (
      λ h. elim ((c.in_ok-sorted.ensures.members x).0 (subst (λ (rs : List Run). IsInRuns rs x)
          c.deref.ensures.value
          ((c.in_ok-runs.ensures.members x).0 (IsInRuns-from_ids_in new x h)))) [
            | inl given ↦ given
            | inr none ↦ absurd (Contains-nil x none)
          ],
      λ h. Contains-ids_in new x ((c.in_ok-runs.ensures.members x).1
          (subst (λ (rs : List Run). IsInRuns rs x) (sym c.deref.ensures.value)
          ((c.in_ok-sorted.ensures.members x).1 (inl h)))),
    )

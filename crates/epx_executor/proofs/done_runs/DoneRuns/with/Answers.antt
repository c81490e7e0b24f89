use Rattle.std.proofs.Common.{List, Contains, sym, subst, inl, inr}
use Rattle.epx_types.specs.declared.id.Id.{Id}
use Rattle.epx_executor.specs.declared.done_runs.Run.{Run}
use Rattle.epx_executor.specs.Runs.{IsInRuns}
use Rattle.epx_executor.proofs.RunLemmas.{Contains-ids_in, IsInRuns-from_ids_in}
use Rattle.epx_executor.proofs.done_runs.DoneRuns.with.Goals as goal

pub returns : goal.returns
returns c = λ x.
    let old = c.self.inside.runs.items in
    let given = c.deref.result.now in
    let sorted = c.deref-2.result.now in
    let new = c.in_ok-runs.runs.items in (
      λ h. elim ((c.in_ok-sorted.ensures.members x).0 (subst (λ (rs : List Run). IsInRuns rs x)
          c.deref-2.ensures.value
          ((c.in_ok-runs.ensures.members x).0 (IsInRuns-from_ids_in new x h)))) [
            | inl before ↦ inl (subst (λ (ids : List Id). Contains ids x) c.self.view_is
                (Contains-ids_in old x (subst (λ (rs : List Run). IsInRuns rs x)
                c.deref.ensures.value before)))
            | inr added ↦ inr added
          ],
      λ h. Contains-ids_in new x ((c.in_ok-runs.ensures.members x).1
          (subst (λ (rs : List Run). IsInRuns rs x) (sym c.deref-2.ensures.value)
          ((c.in_ok-sorted.ensures.members x).1 (elim h [
            | inl before ↦ inl (subst (λ (rs : List Run). IsInRuns rs x)
                (sym c.deref.ensures.value)
                (IsInRuns-from_ids_in old x
                (subst (λ (ids : List Id). Contains ids x) (sym c.self.view_is)
                before)))
            | inr added ↦ inr added
          ])))),
    )

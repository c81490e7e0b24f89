use Rattle.std.proofs.Common.{◌∷◌, [], List, Contains, sym, subst, inl, inr}
use Rattle.epx_types.proofs.Common.{Contains-nil, Contains-head, Contains-cons_cases}
use Rattle.epx_types.specs.declared.id.Id.{Id}
use Rattle.epx_executor.proofs.done_runs.DoneRuns.insert.Goals as goal

pub returns-clause-ok : goal.returns-clause-ok
returns-clause-ok c = λ x.
    let id = c.args.id in
    let alone = c.from_ref.ensures.value in (
      λ h. elim ((c.in_ok-more.ensures x).0 h) [
        | inl old ↦ inl old
        | inr new ↦ inr (elim (Contains-cons_cases id [] x
            (subst (λ (ids : List Id). Contains ids x) alone new)) [
              | inl same ↦ sym same
              | inr none ↦ absurd (Contains-nil x none)
            ])
      ],
      λ h. (c.in_ok-more.ensures x).1 (elim h [
        | inl old ↦ inl old
        | inr new ↦ inr (subst (λ (ids : List Id). Contains ids x) (sym alone)
            (subst (Contains (id ∷ [])) (sym new) (Contains-head id [])))
      ]),
    )

use Rattle.std.proofs.Common.{◌↔◌, List, Contains, sym, ap, ◌∙◌, subst}
use Rattle.epx_types.proofs.Common.{ids_of, IsRising, Instance}
use Rattle.epx_types.specs.declared.id.Id.{Id}
use Rattle.epx_executor.proofs.RemainderLemmas.{IsRising-same_instances}
use Rattle.epx_executor.proofs.pending.Pending.update.Goals as goal

pub returns-in-Err-clause-unchanged : goal.returns-in-Err-clause-unchanged
returns-in-Err-clause-unchanged c =
    let noted : (e : Instance) → Contains c.args.self.now e
    ↔ (Contains c.insert_left.new.self e × (¬ Contains c.deref.result.now e.id)) =
    subst (λ (ids : List Id). (e : Instance) → Contains c.args.self.now e
    ↔ (Contains c.insert_left.new.self e × (¬ Contains ids e.id))) (sym c.deref.ensures.value)
    c.insert_left.ensures.noted in
    IsRising-same_instances c.remove_all.new.self c.args.self.now c.remove_all.ensures.rising
    (subst IsRising (c.self.invariant.0 ∙ ap ids_of c.self.view_is) c.self.invariant.1)
    (λ e. (
      λ h. (noted e).1 ((c.remove_all.ensures.left e).0 h),
      λ h. (c.remove_all.ensures.left e).1 ((noted e).0 h),
    ))

pub returns-clause-left : goal.returns-clause-left
returns-clause-left c = λ e.
    let inserted = c.in_default.ensures.left e in
    let removed = c.remove_all-2.ensures.left e in (
      λ h. let was = removed.0 h in (inserted.0 was.0, was.1),
      λ h. removed.1 (inserted.1 h.0, h.1),
    )

use Rattle.std.proofs.Common.{◌↔◌, List, Contains, IfOk, ap, subst, ◌∙◌}
use Rattle.epx_types.proofs.Common.{take_all, ids_of}
use Rattle.epx_types.specs.declared.id.Id.{Id}
use Rattle.epx_executor.proofs.choose.sorted_ids.Goals as goal

pub returns-clause-exact : goal.returns-clause-exact
returns-clause-exact c =
    subst (λ (ids : List Id). IfOk c.sort_unique.result
    (λ kept. (x : Id) → Contains kept.items x ↔ Contains ids x))
    (c.deref.ensures.value ∙ c.loop-entry.invariant
    ∙ ap ids_of (take_all c.loop-entry.entry-index c.args.entries.now c.loop-entry-test.false))
    c.sort_unique.ensures.exact

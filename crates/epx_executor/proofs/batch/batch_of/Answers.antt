use Rattle.std.proofs.Common.{◌⊎◌, ◌↔◌, ◌∙◌, List, Contains, ap, subst}
use Rattle.epx_types.proofs.Common.{commands_in}
use Rattle.epx_types.specs.declared.id.Id.{Id}
use Rattle.epx_executor.proofs.batch.batch_of.Goals as goal

pub returns : goal.returns
returns g c = record {
  same = c.in_ok-entries.ensures;
  ordered = c.in_ok-order.ensures.ordered;
  found = c.in_ok-positions.ensures ∙ ap (commands_in c.args.merged) c.ids.ensures;
  waiting = c.in_ok-order.ensures.waiting;
  done_now = λ x. subst (λ (ids : List Id).
      Contains c.in_ok-done.done x ↔ (Contains c.args.done.now x ⊎ Contains ids x))
      c.ids-2.ensures (c.in_ok-done.ensures x);
}

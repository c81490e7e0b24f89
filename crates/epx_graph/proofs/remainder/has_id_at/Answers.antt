use Rattle.std.proofs.Common.{get_or, sym, ◌∙◌}
use Rattle.epx_types.proofs.Common.{id_eq-Decides}
use Rattle.epx_types.specs.declared.id.Id.{Id}
use Rattle.epx_graph.proofs.NeighbourLemmas.{get_or-other_default}
use Rattle.epx_graph.proofs.remainder.has_id_at.Goals as goal

pub returns-then-index-done : goal.returns-then-index-done
returns-then-index-done c = λ yes.
    let done = c.args.done.now in
    let zero : Id = record { replica = 0; number = 0 } in
    let decide = id_eq-Decides (get_or done c.args.index zero) c.args.id in
    let same = decide.0 (sym c.eq.ensures ∙ yes) in (
      c.args.index,
      c.if-index-done.true,
      get_or-other_default done c.args.index c.args.id zero c.if-index-done.true ∙ same,
    )

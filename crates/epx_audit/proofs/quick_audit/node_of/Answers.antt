use Rattle.std.proofs.Common.{◌≡◌, None, Some, sym, ap, ◌∙◌}
use Rattle.epx_types.proofs.Common.{Instance, Contains-from_map, slice_get-from_Contains}
use Rattle.epx_types.proofs.Common.{position_of-instance, position_of-found}
use Rattle.epx_types.proofs.lists.ListPositionLemmas.{slice_get-map}
use Rattle.epx_audit.proofs.quick_audit.node_of.Goals as goal

pub unreachable-requires : goal.unreachable-requires
unreachable-requires c =
    let m = c.args.merged.now in
    let e = Contains-from_map (λ (d : Instance). d.id) m c.args.id c.requires.committed in
    let i = slice_get-from_Contains m e.0 e.1 in
    let found = position_of-found m c.requires.rising c.args.id i.0 e.0 i.1 e.2 in
    let none : Some i.0 ≡ None = sym found ∙ sym c.position.ensures ∙ c.in-None.is in
    cc none

pub returns : goal.returns
returns c =
    let m = c.args.merged.now in
    let e = position_of-instance m c.args.id c.in-Some.position
    (sym c.position.ensures ∙ c.in-Some.is) in
    slice_get-map (λ (d : Instance). d.id) m c.in-Some.position e.0 e.1 ∙ ap Some e.2

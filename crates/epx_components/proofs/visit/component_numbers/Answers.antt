use Rattle.epx_components.proofs.visit.component_numbers.Goals as goal

pub unreachable-requires : goal.unreachable-requires
unreachable-requires c =
    let closed = c.requires c.loop-visit.visit-index c.loop-visit-test.true in
    c.in_default.not-Closed closed.0 closed.1

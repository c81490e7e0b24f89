use Rattle.epx_graph.specs.inner.Remainder.{RemainderView, ArePositionTables}
use Rattle.epx_graph.proofs.remainder.Remainder.new.Given as goal

abbrev pub invariant-loop-position : goal.invariant-loop-position
invariant-loop-position l = let r : RemainderView = record { whole = l.merged; done = l.done } in
    ArePositionTables r l.positions.items l.positions_left.items l.position

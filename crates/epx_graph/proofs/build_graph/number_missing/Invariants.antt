use Rattle.std.proofs.Common.{take}
use Rattle.epx_graph.specs.inner.Nodes.{ArePositionsOf}
use Rattle.epx_graph.proofs.build_graph.number_missing.Given as goal

abbrev pub invariant-loop-id : goal.invariant-loop-id
invariant-loop-id l = ArePositionsOf l.ids (take l.id-index l.missing) l.row.items

use Rattle.std.proofs.Common.{take, flat_map}
use Rattle.epx_rows.specs.between.Rows.{row_of}
use Rattle.epx_graph.specs.inner.Searches.{IsVisit}
use Rattle.epx_graph.proofs.search.visit_level.Given as goal

abbrev pub invariant-loop-node : goal.invariant-loop-node
invariant-loop-node l = IsVisit (flat_map (row_of l.rows) (take l.node-index l.level)) l.mark
    (record { marks = l.initial.marks; level = l.initial.next.items })
    (record { marks = l.marks; level = l.next.items })

use Rattle.std.proofs.Common.{◌↔◌, Contains}
use Rattle.epx_neighbours.specs.declared.uncovered_row.UncoveredRow.{UncoveredRow}
use Rattle.epx_neighbours.specs.inner.UncoveredRows.{IsUnmarked}
use Rattle.epx_neighbours.proofs.uncovered_row.unmarked_rows.Given as goal

abbrev pub invariant-loop-index : goal.invariant-loop-index
invariant-loop-index l = (r : UncoveredRow) → Contains l.rows.items r
    ↔ IsUnmarked l.ids l.found l.marks l.index r

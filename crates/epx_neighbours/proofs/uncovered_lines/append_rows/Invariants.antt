use Rattle.std.proofs.Common.{◌≡◌, ◌++◌, flat_map, map, take}
use Rattle.epx_neighbours.specs.UncoveredLines.{pair_line}
use Rattle.epx_neighbours.specs.inner.UncoveredRows.{pair_of}
use Rattle.epx_neighbours.proofs.uncovered_lines.append_rows.Given as goal

abbrev pub invariant-loop-row : goal.invariant-loop-row
invariant-loop-row l = l.text.items ≡ l.initial.text.items
    ++ flat_map (λ r. pair_line (pair_of (map (λ k. k.now) l.keys) r)) (take l.row-index l.rows)

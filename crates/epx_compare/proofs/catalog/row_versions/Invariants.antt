use Rattle.std.proofs.Common.{◌≡◌, map, take}
use Rattle.epx_compare.proofs.catalog.row_versions.Given as goal

abbrev pub invariant-loop-row : goal.invariant-loop-row
invariant-loop-row l = l.numbers.items ≡ map (λ r. r.version) (take l.row-index l.rows)

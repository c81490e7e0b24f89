use Rattle.std.proofs.Common.{map}
use Rattle.std.specs.List.{AllAdjacentBelow}
use Rattle.epx_types.proofs.Common.{Below}
use Rattle.epx_linear.proofs.call_table.is_rising.Given as goal

abbrev pub invariant-loop-index : goal.invariant-loop-index
invariant-loop-index l = AllAdjacentBelow Below (map (λ r. r.id) l.rows) l.index

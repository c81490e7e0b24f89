use Rattle.std.proofs.Common.{◌≡◌, map, take, slice_get}
use Rattle.epx_types.proofs.Common.{instance_of, ops_or_empty}
use Rattle.epx_executor.proofs.batch.positions_of.Given as goal

abbrev pub invariant-loop-id : goal.invariant-loop-id
invariant-loop-id l = map (λ p. ops_or_empty (slice_get l.merged p.1)) l.positions.items
    ≡ map (λ x. ops_or_empty (instance_of l.merged x)) (take l.id-index l.ids)

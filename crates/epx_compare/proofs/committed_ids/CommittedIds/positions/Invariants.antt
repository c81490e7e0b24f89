use Rattle.std.proofs.Common.{◌≡◌, map, take, Some, slice_get}
use Rattle.epx_compare.proofs.committed_ids.CommittedIds.positions.Given as goal

abbrev pub invariant-loop-id : goal.invariant-loop-id
invariant-loop-id l = map (slice_get l.self) l.positions.items ≡ map Some (take l.id-index l.ids)

use Rattle.std.proofs.Common.{◌≡◌, map, take, slice_get}
use Rattle.epx_types.proofs.Common.{ops_or_empty}
use Rattle.epx_executor.proofs.execute_all.commands_at.Given as goal

abbrev pub invariant-loop-id : goal.invariant-loop-id
invariant-loop-id l = map (λ c. c.ops.now) l.commands.items
    ≡ map (λ p. ops_or_empty (slice_get l.entries p.1)) (take l.id-index l.positions)

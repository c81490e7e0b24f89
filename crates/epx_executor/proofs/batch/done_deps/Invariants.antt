use Rattle.std.proofs.Common.{◌≡◌, filter, flat_map, take}
use Rattle.epx_types.proofs.Common.{is_among, Instance}
use Rattle.epx_executor.proofs.batch.done_deps.Given as goal

abbrev pub invariant-loop-position : goal.invariant-loop-position
invariant-loop-position l = l.found.items
    ≡ flat_map (λ (e : Instance). filter (λ x. is_among l.done x) e.deps) (take l.position l.merged)

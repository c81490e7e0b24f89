use Rattle.std.proofs.Common.{◌≡◌, ◌++◌, filter, take}
use Rattle.epx_types.proofs.Common.{is_among}
use Rattle.epx_executor.proofs.batch.append_done.Given as goal

abbrev pub invariant-loop-id : goal.invariant-loop-id
invariant-loop-id l = l.found.items
    ≡ l.initial.found.items ++ filter (λ x. is_among l.done x) (take l.id-index l.ids)

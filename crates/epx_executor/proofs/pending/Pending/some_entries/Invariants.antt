use Rattle.std.proofs.Common.{Bor, map, take}
use Rattle.epx_types.proofs.Common.{Instance}
use Rattle.epx_executor.proofs.PendingLemmas.{AreSome}
use Rattle.epx_executor.proofs.pending.Pending.some_entries.Given as goal

abbrev pub invariant-loop-id : goal.invariant-loop-id
invariant-loop-id l = AreSome l.self (take l.id-index l.ids)
    (map (λ (b : Bor Instance). b.now) l.found.items)

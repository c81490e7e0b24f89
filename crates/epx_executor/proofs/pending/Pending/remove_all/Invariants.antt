use Rattle.std.proofs.Common.{take}
use Rattle.epx_types.proofs.Common.{ids_of, IsRising}
use Rattle.epx_executor.proofs.PendingLemmas.{AreWithout}
use Rattle.epx_executor.proofs.pending.Pending.remove_all.Given as goal

abbrev pub invariant-loop-id : goal.invariant-loop-id
invariant-loop-id l =
    AreWithout l.fn.self (take l.id-index l.ids) l.self × IsRising (ids_of l.self)

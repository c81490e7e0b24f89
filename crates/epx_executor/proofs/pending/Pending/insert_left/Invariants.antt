use Rattle.std.proofs.Common.{take}
use Rattle.epx_executor.proofs.PendingLemmas.{AreInserted}
use Rattle.epx_executor.proofs.pending.Pending.insert_left.Given as goal

abbrev pub invariant-loop-entry : goal.invariant-loop-entry
invariant-loop-entry l =
    AreInserted l.done l.fn.self (take l.entry-index l.entries) l.self l.inserted.items

use Rattle.std.proofs.Common.{List, Contains, take}
use Rattle.epx_types.proofs.Common.{IsCommitted, Instance, Reaches, Waiting, waiting_ids}
use Rattle.epx_types.specs.declared.id.Id.{Id}
use Rattle.epx_executor.specs.inner.Choices.{AreWithin}
use Rattle.epx_executor.specs.inner.Filings.{IsFiled}
use Rattle.epx_executor.proofs.refile.file_waiters.Given as goal

abbrev pub invariant-loop-waiter : goal.invariant-loop-waiter
invariant-loop-waiter l =
    ((x y : Id) → Contains l.fn.before (x, y) → Contains l.blockers (x, y))
    × ((x : Id) → Contains (waiting_ids (take l.waiter-index l.waiters)) x → IsFiled l.blockers x)
    × ((m : List Instance) → AreWithin m l.fn.before
    → ((w : Waiting) → Contains l.waiters w → IsCommitted m w.id × Reaches m w.id w.missing)
    → AreWithin m l.blockers)

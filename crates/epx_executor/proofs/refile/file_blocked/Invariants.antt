use Rattle.std.proofs.Common.{List, Contains}
use Rattle.epx_types.proofs.Common.{Instance}
use Rattle.epx_types.specs.declared.id.Id.{Id}
use Rattle.epx_executor.specs.inner.Choices.{AreWithin}
use Rattle.epx_executor.proofs.refile.file_blocked.Given as goal

abbrev pub invariant-loop-id : goal.invariant-loop-id
invariant-loop-id l =
    ((x y : Id) → Contains l.fn.blockers (x, y) → Contains l.blockers (x, y))
    × ((m : List Instance) → AreWithin m l.blocked → AreWithin m l.fn.blockers
    → AreWithin m l.blockers)

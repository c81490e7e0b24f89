use Rattle.std.proofs.Common.{◌≡◌, ◌⊎◌, get_or, Some}
use Rattle.epx_audit.specs.inner.PathCovers.{greatest_on}
use Rattle.epx_audit.proofs.path_cover.RowMerge.path_on.Given as goal

abbrev pub invariant-loop-candidate : goal.invariant-loop-candidate
invariant-loop-candidate l = (l.path ≡ l.start)
    ⊎ (greatest_on l.self.greatest.items l.path ≡ Some (get_or l.tails l.path 0))

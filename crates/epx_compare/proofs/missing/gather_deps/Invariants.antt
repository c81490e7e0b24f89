use Rattle.std.proofs.Common.{◌≡◌, take}
use Rattle.epx_compare.specs.inner.MissingCounts.{deps_at_numbers}
use Rattle.epx_compare.proofs.missing.gather_deps.Given as goal

abbrev pub invariant-loop-number : goal.invariant-loop-number
invariant-loop-number l = l.deps.items
    ≡ deps_at_numbers l.versions.keys (take l.number-index l.numbers)

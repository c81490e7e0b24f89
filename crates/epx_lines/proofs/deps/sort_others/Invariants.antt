use Rattle.std.proofs.Common.{◌≡◌, drop}
use Rattle.epx_lines.specs.DependencyList.{rising_others}
use Rattle.epx_lines.proofs.OtherIdLemmas.{with_others}
use Rattle.epx_lines.proofs.deps.sort_others.Given as goal

abbrev pub invariant-loop-dep : goal.invariant-loop-dep
invariant-loop-dep l = rising_others l.fn.id l.fn.named
    ≡ with_others l.fn.id l.others.keys (drop l.dep-index l.fn.named)

use Rattle.std.proofs.Common.{◌≡◌, ◌+◌, ◌<◌, ℕ, length, get_or, take, Contains}
use Rattle.epx_blockers.specs.inner.NodeCounts.{IsOneMoreIf}
use Rattle.epx_blockers.proofs.named.add_missing.Given as goal

abbrev pub invariant-loop-target : goal.invariant-loop-target
invariant-loop-target l = record {
  len : length l.named ≡ length l.initial.named;
  each : (i : ℕ) → i < length l.initial.named
      → IsOneMoreIf (Contains (take l.target-index l.targets) (l.committed + i))
      (get_or l.initial.named i 0) (get_or l.named i 0);
}

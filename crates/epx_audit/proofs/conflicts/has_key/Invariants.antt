use Rattle.std.proofs.Common.{◌≢◌, ℕ, ◌<◌, Some, map, slice_get}
use Rattle.epx_audit.proofs.conflicts.has_key.Given as goal

abbrev pub invariant-loop-other : goal.invariant-loop-other
invariant-loop-other l = (i : ℕ) → i < l.other-index
    → slice_get (map (λ k. k.now) l.keys) i ≢ Some l.key

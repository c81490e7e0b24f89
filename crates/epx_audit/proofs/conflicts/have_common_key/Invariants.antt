use Rattle.std.proofs.Common.{◌≡◌, ℕ, List, ◌<◌, Some, map, slice_get, Contains}
use Rattle.epx_audit.proofs.conflicts.have_common_key.Given as goal

abbrev pub invariant-loop-key : goal.invariant-loop-key
invariant-loop-key l = (i : ℕ) (k : List ℕ) → i < l.key-index
    → slice_get (map (λ k. k.now) l.keys) i ≡ Some k → ¬ Contains (map (λ k. k.now) l.others) k

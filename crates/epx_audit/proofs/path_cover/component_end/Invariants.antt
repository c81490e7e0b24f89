use Rattle.std.proofs.Common.{◌≡◌, ℕ, ◌<◌, ◌≤◌, slice_get, Some}
use Rattle.epx_types.proofs.Common.{Ranked}
use Rattle.epx_audit.proofs.path_cover.component_end.Given as goal

-- the positions so far have the leader of the first
abbrev pub invariant-loop-position : goal.invariant-loop-position
invariant-loop-position l = (p : ℕ) → l.start ≤ p → p < l.position
    → (r : Ranked) × (slice_get l.order p ≡ Some r) × (r.leader ≡ l.leader)

use Rattle.std.proofs.Common.{◌≡◌, ◌<◌, ℕ, get_or}
use Rattle.epx_why.proofs.why.position_of.Given as goal

abbrev pub invariant-loop-position : goal.invariant-loop-position
invariant-loop-position l = (k : ℕ) → k < l.position → ¬ (get_or l.ids k l.id ≡ l.id)

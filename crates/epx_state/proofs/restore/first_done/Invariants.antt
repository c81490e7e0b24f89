use Rattle.std.proofs.Common.{ℕ, ◌<◌, length, get_or, Contains}
use Rattle.epx_types.specs.declared.id.Id.{Id}
use Rattle.epx_state.proofs.restore.first_done.Given as goal

abbrev pub invariant-loop-position : goal.invariant-loop-position
invariant-loop-position l = (k : ℕ) (d : Id) → k < l.position → k < length l.ids
    → ¬ Contains l.executor.done (get_or l.ids k d)

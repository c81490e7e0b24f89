use Rattle.std.proofs.Common.{ℕ, ◌-◌, ◌≤◌, ◌<◌, length, get_or}
use Rattle.epx_executor.specs.declared.done_runs.Run.{Run}
use Rattle.epx_executor.specs.Runs.{IsInRun}
use Rattle.epx_executor.proofs.done_runs.is_in_runs.Given as goal

-- a run that has the Id is from low on and below high
abbrev pub invariant-loop-low : goal.invariant-loop-low
invariant-loop-low l = (l.high ≤ length l.runs) × ((k : ℕ) (d : Run) → k < length l.runs
    → IsInRun (get_or l.runs k d) l.id → (l.low ≤ k) × (k < l.high))

abbrev pub decreases-loop-low : goal.decreases-loop-low
decreases-loop-low l = l.high - l.low

-- Laws of states.
use Rattle.std.specs.Prelude.{◌≡◌, ◌≤◌, ℕ, List, length}
use Rattle.epx_types.specs.declared.fault.Fault.{Fault}
use Rattle.epx_types.specs.declared.fault.Fault.TheVariants.{Memory}
use Rattle.epx_types.specs.Limits.{max_instances}
use Rattle.epx_executor.specs.Commits.{AllWait, ExecutorView}
use Rattle.epx_executor.specs.ExecutorLaws.{HoldTheSame}
use Rattle.epx_state.specs.StateFaults.{IsStateFault}
use Rattle.epx_state.specs.StateForms.{StateParts}
use Rattle.epx_state.specs.Starts.{GoesOnFrom}
use Rattle.epx_state.specs.States.{HoldsState, IsState}

-- bytes are a state of at most one choice of runs, waiting instances and stored values
abbrev pub StateIsUnique : Type 0
StateIsUnique = (bytes : List ℕ) (p q : StateParts) → IsState bytes p → IsState bytes q → p ≡ q

-- two executors that hold the parts of one state hold the same
abbrev pub RestoredHoldTheSame : Type 0
RestoredHoldTheSame = (bytes : List ℕ) (p q : StateParts) (v w : ExecutorView)
    → IsState bytes p → HoldsState p v → IsState bytes q → HoldsState q w → HoldTheSame v w

-- the state of an executor of which `AllWait` holds, and in which at most `max_instances` instances
-- wait, is refused only where memory runs out
abbrev pub StateOfAnExecutorIsGood : Type 0
StateOfAnExecutorIsGood = (bytes : List ℕ) (p : StateParts) (v : ExecutorView)
    → IsState bytes p → HoldsState p v → AllWait v → length v.pending ≤ max_instances →
    (fault : Fault) → IsStateFault bytes fault → fault ≡ Memory

-- two executors that go on from the same bytes hold the same
abbrev pub StartedHoldTheSame : Type 0
StartedHoldTheSame = (bytes : List ℕ) (v w : ExecutorView) (line other : ℕ)
    → GoesOnFrom bytes v line → GoesOnFrom bytes w other → HoldTheSame v w
